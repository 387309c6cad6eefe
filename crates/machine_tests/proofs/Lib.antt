mod Places
mod Shares

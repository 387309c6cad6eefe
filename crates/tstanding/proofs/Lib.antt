mod ReachedNets
mod Outside
mod HistoryFaults

mod Counts
mod FreeLanes
mod Layouts
mod UnseenCharts
mod UnseenMessages

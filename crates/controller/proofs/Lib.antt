mod Stepped
mod Feeds

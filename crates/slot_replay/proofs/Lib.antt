mod Along
mod Refreshing

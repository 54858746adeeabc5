mod Accepting
mod Ending
mod Messaging

pub mod Inbox
pub mod Book
pub mod Inboxes

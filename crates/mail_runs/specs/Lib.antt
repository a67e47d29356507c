pub mod Commands
pub mod Texts
pub mod Mailboxes
pub mod Histories

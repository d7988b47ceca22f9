pub mod Cutting
pub mod MailboxFiles

pub mod Laid
pub mod Handed
pub mod GotParts
pub mod MailboxLaid
pub mod PartiesLaid

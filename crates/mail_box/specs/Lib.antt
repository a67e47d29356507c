pub mod Boxes
pub mod Dialogues
pub mod Mails
pub mod States
pub mod Turns
pub mod Contents
pub mod Queues

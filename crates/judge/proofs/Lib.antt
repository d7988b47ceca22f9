pub mod Bodies
pub mod Stages
mod QuickWay
pub mod Told

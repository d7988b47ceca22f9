pub mod EitherOrder

pub mod PlaceLaws
mod CountLaws
mod PartLaws

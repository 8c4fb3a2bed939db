mod FrontLaws
mod PlaceLaws

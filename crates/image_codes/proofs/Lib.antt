mod ByteLaws
mod SoundLaws
mod AcceptedLaws
mod LeftLaws
mod LengthLaws
mod JoinLaws

-- Laws about members.
pub mod BoxesLaws
pub mod LevelLaws
pub mod PlaceLaws

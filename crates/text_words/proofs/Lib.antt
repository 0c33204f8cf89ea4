-- a text put behind the bytes before a place
pub mod Joined

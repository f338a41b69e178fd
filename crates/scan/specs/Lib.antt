-- What reading a place sheet into lent columns comes to.
pub mod Lent
pub mod Read

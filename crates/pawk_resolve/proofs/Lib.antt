mod Places
mod Joins

mod Follows
mod Kept
mod Opened
mod Replayed
mod Seated

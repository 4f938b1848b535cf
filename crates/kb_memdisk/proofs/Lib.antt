mod Cuts
mod Overlaid
mod Places
mod Rowed
mod Seats

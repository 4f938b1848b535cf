mod Split
mod Rows
mod Looks
mod Roots

mod Serves
mod Looks
mod Ordering
mod Cutting
mod Ending

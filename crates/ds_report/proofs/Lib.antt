mod FirstItem
mod Given
mod NextEntries
mod TurnsTold

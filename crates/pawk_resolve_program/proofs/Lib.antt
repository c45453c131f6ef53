mod Counts
mod Walks
mod Shapes
mod Among
mod Choice
mod First

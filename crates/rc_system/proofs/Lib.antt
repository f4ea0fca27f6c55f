mod Taken
mod NamesMore

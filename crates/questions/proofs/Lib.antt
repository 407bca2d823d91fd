-- What reading the question shows.
mod Asking

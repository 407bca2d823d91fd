-- How long a line of two numbers is.
mod Words

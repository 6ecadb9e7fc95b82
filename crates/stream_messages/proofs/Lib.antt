mod History
mod Titles

mod Jumps
mod Worked

mod Regroup
mod Exits

mod Judging
mod Accepting

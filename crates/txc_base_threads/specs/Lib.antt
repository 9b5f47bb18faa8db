pub mod Postcondition

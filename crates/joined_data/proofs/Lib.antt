-- where the first power of 2 stands that is above a number
mod Powers
-- rows that wait, from the first key on
mod Keys
-- a list read at a place
mod Places

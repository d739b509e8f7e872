-- What a metered pool is after a booking.
mod Booked
-- Readings with the number of moves behind them, which is no less than what was booked.
mod Progressing
-- The run of one worker, walk by walk and move by move, as it is written down for the first worker.
mod Walking

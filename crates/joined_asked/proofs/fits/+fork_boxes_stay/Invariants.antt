use Rattle.std.proofs.Common.{length}
use Rattle.joined_asked.proofs.fits.+fork_boxes_stay.Given as goal

abbrev pub decreases-fork_boxes_stay : goal.decreases-fork_boxes_stay
decreases-fork_boxes_stay l = length l.boxes.now

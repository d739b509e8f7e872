use Rattle.std.proofs.Common.{◌≡◌, length}
use Rattle.goi_world.specs.FilesInMemory.{files_of, bytes_of}
use Rattle.goi_world.proofs.memory_files.find_file.Given as goal

abbrev pub invariant-loop-rest : goal.invariant-loop-rest
invariant-loop-rest l = bytes_of (files_of l.rest) l.name ≡ bytes_of (files_of l.fn.files) l.name

abbrev pub decreases-loop-rest : goal.decreases-loop-rest
decreases-loop-rest l = length l.rest

-- A read of the disk meets its trait: where nothing is told and no name is lacked, most clauses say nothing.
use Rattle.std.proofs.Common.{◌≡◌, ℕ, List, Result, Ok, Err, OnOk, OnErr, refl, ap, inr, arith}
use Rattle.std.proofs.lemmas.Result.{on_err_weaker}
use Rattle.goi_world.specs.Outside.{Rose}
use Rattle.goi_world.specs.FilesOnDisk.{FilesOnDisk, one_read}
use Rattle.goi_world.specs.Told.{reading}
use Rattle.goi_world.proofs.disk.DiskFilesFiles.TheImpl.Goals as goal

faults_of : (x y : FilesOnDisk) → x ≡ y → x.faults ≡ y.faults
faults_of x y e = ap (λ (f : FilesOnDisk). f.faults) e

-- the count of faults stays where a read gave something
stayed : {E : Type 0} (r : Result ℕ E) (old new : FilesOnDisk) (name : List ℕ) (at room : ℕ) (buf : List ℕ) →
    new ≡ one_read old (reading {E = E} name at room r buf) → OnOk r (new.faults ≡ old.faults)
stayed {E = E} (Ok n) old new name at room buf e = faults_of new (one_read old (reading {E = E} name at room (Ok n) buf)) e
stayed (Err x) old new name at room buf e = tt

-- and it rose where it failed
rose : {E : Type 0} (r : Result ℕ E) (old new : FilesOnDisk) (name : List ℕ) (at room : ℕ) (buf : List ℕ) →
    new ≡ one_read old (reading {E = E} name at room r buf) → OnErr r (Rose old.faults new.faults)
rose (Ok n) old new name at room buf e = tt
rose {E = E} (Err x) old new name at room buf e =
    let f = faults_of new (one_read old (reading {E = E} name at room (Err x) buf)) e in omega (arith, f)

pub read-tells : goal.read-tells
read-tells g c = record {
  kept = record { told = refl; lacks = refl; steady = refl; quiet = λ h. cc };
  reads = c.ensures.after;
  bound = c.ensures.bound;
  lacked = λ h. cc;
  later = c.ensures.later;
  ok = stayed c.result _ _ _ _ _ _ c.ensures.after;
  failed = on_err_weaker c.result (λ h. inr h) (rose c.result _ _ _ _ _ _ c.ensures.after);
  sure = λ h. cc;
}

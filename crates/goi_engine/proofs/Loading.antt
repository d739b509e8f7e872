-- What one read adds to what was loaded, and when all is loaded.
use Rattle.std.proofs.Common.{◌≡◌, ℕ, [], ◌∷◌, All, refl, ◌+◌, ◌<◌, ◌≤◌, List, ◌++◌, length, take, drop, Option, Some, None, IfSome}
use Rattle.std.proofs.Common.{sym, ap, subst}
use Rattle.std.proofs.Common.{IsTrue, ◌∙◌, ◌⊎◌, inl, inr, arith, length-append}
use Rattle.std.proofs.Math.Seq.{take-add}
use Rattle.std.proofs.lemmas.List.Elements.{All-cons}
use Rattle.std.proofs.lemmas.List.{take_all, length-take-le}
use Rattle.goi_world.specs.Outside.{Reading, CameBy, given, with_given}
use Rattle.goi_world.specs.Told.{read_of, Fits, IsPiece}
use Rattle.goi_world.specs.Seen.{FilesState, FilesKept, holding}
use Rattle.goi_engine.specs.FilesSeen.{ReadsWithin, Onwards, Joined, LoadedBy}
use Rattle.goi_engine.specs.Loads.{Loads, GoesOn}

-- what stays in each of two steps stays in both
pub kept_twice : (old mid new : FilesState) → FilesKept old mid → FilesKept mid new → FilesKept old new
kept_twice old mid new first second = record {
  told = second.told ∙ first.told;
  lacks = second.lacks ∙ first.lacks;
  steady = second.steady ∙ first.steady;
  quiet = λ sure. second.quiet (subst IsTrue (sym first.steady) sure) ∙ first.quiet sure;
}

-- behind a prefix of a file stands what was read next, so that both are a prefix
grown : (bytes old new piece : List ℕ) (n room : ℕ) → new ≡ old ++ take n piece → length new ≡ length old + n → n ≤ length piece →
    IsPiece bytes (length old) room (take n piece) → old ≡ take (length old) bytes → new ≡ take (length new) bytes
grown bytes old new piece n room e len le p prefix =
    e
    ∙ ap (λ xs. xs ++ take n piece) prefix
    ∙ ap (λ xs. take (length old) bytes ++ xs) (p.same ∙ ap (λ i. take i (drop (length old) bytes)) (length-take-le n piece le))
    ∙ sym (take-add (length old) n bytes)
    ∙ ap (λ i. take i bytes) (sym len)

longer : (old new piece : List ℕ) (n : ℕ) → new ≡ old ++ take n piece → n ≤ length piece → length new ≡ length old + n
longer old new piece n e le = ap length e ∙ length-append old (take n piece) ∙ ap (λ m. length old + m) (length-take-le n piece le)

-- a read of n bytes, which were put behind those before
pub loads : (limit : ℕ) (old new piece : List ℕ) (n : ℕ) → new ≡ old ++ take n piece → n ≤ length piece →
    length old + length piece ≤ (limit + 1) → Loads limit old new n
loads limit old new piece n e le room =
    let len : length new ≡ length old + n = longer old new piece n e le in record { more = len; within = omega arith }

-- and which stand in the file
pub read_on : (known : Option (List ℕ)) (old new piece : List ℕ) (n room : ℕ) → new ≡ old ++ take n piece → n ≤ length piece → 0 < room →
    IfSome known (λ bytes. IsPiece bytes (length old) room (take n piece)) → GoesOn known old new n
read_on None old new piece n room e le some p = record { prefix = p; end = p }
read_on (Some bytes) old new piece n room e le some p =
    let len : length new ≡ length old + n = longer old new piece n e le in
    record {
      prefix = λ prefix. grown bytes old new piece n room e len le p prefix;
      end = λ zero. p.end (length-take-le n piece le ∙ zero) some;
    }

-- what was loaded is a prefix of the file still
pub prefix_goes_on : (known : Option (List ℕ)) (old new : List ℕ) (n : ℕ) → GoesOn known old new n →
    IfSome known (λ bytes. old ≡ take (length old) bytes) → IfSome known (λ bytes. new ≡ take (length new) bytes)
prefix_goes_on None old new n on prefix = prefix
prefix_goes_on (Some bytes) old new n on prefix = on.prefix prefix

-- and at the file's end, or past its limit, all of it is loaded that is to be
pub all_loaded : (limit : ℕ) (known : Option (List ℕ)) (old new : List ℕ) (n : ℕ) → Loads limit old new n → GoesOn known old new n →
    IfSome known (λ bytes. old ≡ take (length old) bytes) → (n ≡ 0) ⊎ (length new ≡ (limit + 1)) →
    IfSome known (λ bytes. new ≡ take (limit + 1) bytes)
all_loaded limit None old new n loads on prefix done = prefix
all_loaded limit (Some bytes) old new n loads on prefix (inr full) = on.prefix prefix ∙ ap (λ i. take i bytes) full
all_loaded limit (Some bytes) old new n loads on prefix (inl zero) =
    let short : length bytes ≤ length new = omega (arith, on.end zero, loads.more) in
    let within : length bytes ≤ (limit + 1) = omega (arith, short, loads.within) in
    on.prefix prefix ∙ take_all (length new) bytes short ∙ sym (take_all (limit + 1) bytes within)

-- so many reads were made of a file, each within its limit, at places that go on, all before this one, and they gave these bytes
pub record Turns {S : Type 0} (one : S → Reading → S → Type 0) (name : List ℕ) (limit turns place : ℕ) (bytes : List ℕ)
    (old now : S) : Type 0
  where
    pub log : List Reading
    pub came : CameBy one old log now
    pub count : length log ≡ turns
    pub each : All (ReadsWithin name limit) log
    pub onwards : Onwards place log
    pub joined : Joined log
    pub gave : given log ≡ bytes

-- Below, files are read by name up to a limit.
module _ {S : Type 0} (one : S → Reading → S → Type 0) (name : List ℕ) (limit : ℕ) where
  -- one more read, at the place that was come to
  pub next_turn : (turns : ℕ) (old mid now : S) (room place : ℕ) (gave : Option (List ℕ)) (bytes more : List ℕ) →
      Turns one name limit turns (length bytes) bytes old mid → length bytes + room ≤ limit + 1 →
      one mid (read_of name (length bytes) room gave) now → length bytes < place → with_given bytes gave ≡ more →
      Turns one name limit (turns + 1) place more old now
  next_turn turns old mid now room place gave bytes more before within read further is = record {
    log = read_of name (length bytes) room gave ∷ before.log;
    came = (mid, before.came, read);
    count = omega (arith, before.count);
    each = All-cons (ReadsWithin name limit) (read_of name (length bytes) room gave) before.log (record { named = refl; within = within })
        before.each;
    onwards = (further, before.onwards);
    joined = (ap length (sym before.gave), before.joined);
    gave = ap (λ xs. with_given xs gave) before.gave ∙ is;
  }

  -- so a file was loaded
  pub turns_load : (turns : ℕ) (bytes : List ℕ) (old now : S) → Turns one name limit turns (limit + 1) bytes old now → turns ≤ limit + 1 →
      LoadedBy one name limit old now
  turns_load turns bytes old now t few = record {
    log = t.log;
    came = t.came;
    few = omega (arith, t.count, few);
    each = t.each;
    onwards = t.onwards;
    joined = t.joined;
  }

-- Below, what fits after a read fits before it.
module _ {S : Type 0} (one : S → Reading → S → Type 0) (fits : S → (List ℕ → Option (List ℕ)) → Type 0)
    (each : (old : S) (r : Reading) (new : S) (told : List ℕ → Option (List ℕ)) → one old r new → fits new told →
    fits old told × Fits told r)
    (told : List ℕ → Option (List ℕ)) where
  came_fits : (log : List Reading) (old new : S) → CameBy one old log new → fits new told → fits old told
  came_fits [] old new e h = subst (λ (s : S). fits s told) e h
  came_fits (r ∷ log) old new (mid, came, read) h = came_fits log old mid came (each mid r new told read h).0

  -- so what fits after a load fits before it
  pub load_fits : (name : List ℕ) (limit : ℕ) (old new : S) → LoadedBy one name limit old new → fits new told → fits old told
  load_fits name limit old new l h = came_fits l.log old new l.came h

-- what stays of files stays whatever they hold
pub kept_holding : (told : List ℕ → Option (List ℕ)) (old new : FilesState) → FilesKept old new →
    FilesKept (holding told old) (holding told new)
kept_holding told old new k = record { told = refl; lacks = k.lacks; steady = k.steady; quiet = k.quiet }

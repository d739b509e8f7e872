-- Rows by how they end, made of parts that are as the entry has them.
use Rattle.std.proofs.Common.{◌≡◌, ◌∙◌, ap, ap₂, List}
use Rattle.joined_rows.specs.Ticks.{NamedFork}
use Rattle.joined_core.specs.Rows.{Site, Source, given_at, Second, onwards, answers_fork}
use Rattle.joined_core.specs.Listed.{Entry}
use Rattle.joined_module.specs.Rows.{Operand, Worth, ForkDeed, Numbering, first_from, second_from, first_value, second_value, landing_row}
use Rattle.joined_module.specs.Rows.{row_by_way, forks_opened, forks_answered, walker_operand, walker_worth}

-- a row that goes on
pub goes_on : (N : Numbering) (e : Entry) (w : Site) (gs : List Source) (fs : List NamedFork) (d : ForkDeed) (v : Worth) →
    w ≡ N.site e.key → gs ≡ e.row.given → fs ≡ e.row.to.forks →
    d ≡ forks_opened N.tag (λ n. first_from N.tag w (given_at gs n)) fs → v ≡ walker_worth first_value e.row.to.live →
    landing_row N e (λ n. first_from N.tag w (given_at gs n)) e.row.to d v ≡ row_by_way N e onwards
goes_on N e w gs fs d v at given inner deed told =
    let row = λ (u : Site) (hs : List Source) (ks : List NamedFork).
    landing_row N e (λ n. first_from N.tag u (given_at hs n)) e.row.to
    (forks_opened N.tag (λ n. first_from N.tag u (given_at hs n)) ks) (walker_worth first_value e.row.to.live) in
    ap₂ (λ a b. landing_row N e (λ n. first_from N.tag w (given_at gs n)) e.row.to a b) deed told ∙ (ap (λ u. row u gs fs) at ∙
    (ap (λ hs. row (N.site e.key) hs fs) given ∙ ap (λ ks. row (N.site e.key) e.row.given ks) inner))

-- one that answers a fork
pub answers_one : (N : Numbering) (e : Entry) (q : Second) (x : Operand) (gs : List Source) (fs : List NamedFork) (d : ForkDeed)
    (v : Worth) → x ≡ walker_operand e.row.to.live → gs ≡ q.given → fs ≡ q.to.forks → d ≡ forks_answered (second_value x) fs →
    v ≡ walker_worth (second_value x) q.to.live →
    landing_row N e (λ n. second_from N.tag (given_at gs n)) q.to d v ≡ row_by_way N e (answers_fork q)
answers_one N e q x gs fs d v one given inner deed told =
    let row = λ (y : Operand) (hs : List Source) (ks : List NamedFork).
    landing_row N e (λ n. second_from N.tag (given_at hs n)) q.to (forks_answered (second_value y) ks)
    (walker_worth (second_value y) q.to.live) in
    ap₂ (λ a b. landing_row N e (λ n. second_from N.tag (given_at gs n)) q.to a b) deed told ∙ (ap (λ y. row y gs fs) one ∙
    (ap (λ hs. row (walker_operand e.row.to.live) hs fs) given ∙ ap (λ ks. row (walker_operand e.row.to.live) q.given ks) inner))

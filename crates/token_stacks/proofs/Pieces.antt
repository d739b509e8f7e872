-- What is put down of a signature's text: pieces behind others, and the last one taken off.
use Rattle.std.proofs.Common.{◌≡◌, ℕ, ◌+◌, ◌*◌, ◌<◌, List, [], ◌∷◌, ◌++◌, append_assoc, length, codes, sym}
use Rattle.std.proofs.Common.{ap, subst, ◌∙◌, arith, Result, Option, IfOk}
use Rattle.std.proofs.lemmas.List.{append-nil}
use denote.Bor.{Bor}
use Rattle.token_stacks.specs.Signatures.{Sig}
use Rattle.token_stacks.specs.Words.{body}
use Rattle.token_stacks.specs.Tops.{IsBody}
use Rattle.token_stacks.specs.Reading.{boxes_of-words}
use Rattle.token_stacks.specs.Texts.{sig_text}
use Rattle.token_stacks.specs.declared.print.Piece.{Piece}
use Rattle.token_stacks.specs.declared.print.Piece.TheVariants.{Mark, Part, Second}
use Rattle.token_stacks.specs.Printing.{top_sig, sig_of, held, piece_text, pieces_text, IsPart, AreParts, piece_work, pieces_work, Writes}
use Rattle.token_stacks.proofs.Said.{two, if_map, writes_as, writes_now}

-- a signature's words are read as that signature
pub sig_of_body : (s : Sig) (ws : List ℕ) → ws ≡ body s → sig_of ws ≡ s
sig_of_body s ws e = ap sig_of e ∙ ap top_sig (boxes_of-words (s ∷ []))

pub part_text : (s : Sig) (ws : Bor (List ℕ)) (d : ℕ) → ws.now ≡ body s → piece_text (Part ws d) ≡ sig_text d s
part_text s ws d e = ap (sig_text d) (sig_of_body s ws.now e)

pub pieces_text_append : (ps qs : List Piece) → pieces_text (ps ++ qs) ≡ pieces_text qs ++ pieces_text ps
pieces_text_append [] qs = sym (append-nil (pieces_text qs))
pieces_text_append (p ∷ ps) qs =
    ap (λ z. z ++ piece_text p) (pieces_text_append ps qs) ∙ append_assoc (pieces_text qs) (pieces_text ps) (piece_text p)

pub pieces_work_append : (ps qs : List Piece) → pieces_work (ps ++ qs) ≡ pieces_work ps + pieces_work qs
pieces_work_append [] qs = omega arith
pieces_work_append (p ∷ ps) qs = let e = pieces_work_append ps qs in omega (arith, e)

pub parts_append : (ps qs : List Piece) → AreParts ps → AreParts qs → AreParts (ps ++ qs)
parts_append [] qs a b = b
parts_append (p ∷ ps) qs a b = (a.0, parts_append ps qs a.1 b)

pub parts_front : (ps qs : List Piece) → AreParts (ps ++ qs) → AreParts ps
parts_front [] qs a = tt
parts_front (p ∷ ps) qs a = (a.0, parts_front ps qs a.1)

pub parts_last : (ps : List Piece) (p : Piece) → AreParts (ps ++ p ∷ []) → IsPart p
parts_last [] p a = a.0
parts_last (q ∷ ps) p a = parts_last ps p a.1

-- A byte, and nothing behind it.
pub mark_said : (old new : List ℕ) (b : ℕ) (before : List Piece) → new ≡ old ++ b ∷ [] →
    Writes old new before (before ++ []) (b ∷ []) 1
mark_said old new b before e =
    subst (λ q. Writes old new before q (b ∷ []) 1) (sym (append-nil before)) (writes_now old new before (b ∷ []) 1 (omega arith) e)

-- A mark, and a signature in hand behind it.
pub marked_said : (old new : List ℕ) (mark : ℕ) (before : List Piece) (ws : Bor (List ℕ)) (d : ℕ) (s : Sig) →
    ws.now ≡ body s → new ≡ old ++ mark ∷ [] →
    Writes old new before (before ++ Part ws d ∷ []) (mark ∷ sig_text d s) (3 * length ws.now + 1)
marked_said old new mark before ws d s e n = record {
  text = ap (λ z. z ++ pieces_text (before ++ Part ws d ∷ [])) n
      ∙ ap (λ z. (old ++ mark ∷ []) ++ z) (pieces_text_append before (Part ws d ∷ []) ∙
      ap (λ z. z ++ pieces_text before) (part_text s ws d e))
      ∙ append_assoc old (mark ∷ []) (sig_text d s ++ pieces_text before);
  parts = λ a. parts_append before (Part ws d ∷ []) a (record { sig = s; is = e }, tt);
  less = let k = pieces_work_append before (Part ws d ∷ []) in omega (arith, k);
}

-- what follows the first of two signatures, as it is put down
pub second_text : (s : Sig) (ws : Bor (List ℕ)) (d close : ℕ) → ws.now ≡ body s →
    piece_text (Second ws d close) ≡ codes "," ++ (sig_text d s ++ close ∷ [])
second_text s ws d close e = ap (λ z. codes "," ++ (sig_text d z ++ close ∷ [])) (sig_of_body s ws.now e)

-- What stands before the second of two parts, the part in hand, and what closes it put down.
pub second_said : (old new : List ℕ) (before after : List Piece) (ws : Bor (List ℕ)) (d close : ℕ) (s : Sig) → ws.now ≡ body s →
    new ≡ old ++ codes "," → after ≡ before ++ Mark close ∷ [] →
    Writes old new before (after ++ Part ws d ∷ []) (codes "," ++ (sig_text d s ++ close ∷ [])) (3 * length ws.now + 2)
second_said old new before after ws d close s e n p =
    let two : List Piece = Mark close ∷ Part ws d ∷ [] in
    let are : after ++ Part ws d ∷ [] ≡ before ++ two =
    ap (λ q. q ++ Part ws d ∷ []) p ∙ append_assoc before (Mark close ∷ []) (Part ws d ∷ []) in
    let x : List ℕ = sig_text d s ++ close ∷ [] in
    record {
      text = (λ i. n i ++ pieces_text (are i))
          ∙ ap (λ z. (old ++ codes ",") ++ z)
          (pieces_text_append before two ∙ ap (λ z. (z ++ close ∷ []) ++ pieces_text before) (part_text s ws d e))
          ∙ append_assoc old (codes ",") (x ++ pieces_text before);
      parts = λ a. subst AreParts (sym are) (parts_append before two a (tt, (record { sig = s; is = e }, tt)));
      less = let k = ap pieces_work are ∙ pieces_work_append before two in omega (arith, k);
    }

-- both signatures as they are put down and handed out
abbrev pub both : Bor (List ℕ) → Bor (List ℕ) → ℕ → ℕ → List Piece
both a b close d = Second b d close ∷ Part a d ∷ []

both_text : (a b : Bor (List ℕ)) (close d : ℕ) (s u : Sig) → a.now ≡ body s → b.now ≡ body u →
    pieces_text (both a b close d) ≡ sig_text d s ++ (codes "," ++ (sig_text d u ++ close ∷ []))
both_text a b close d s u e f = λ i. part_text s a d e i ++ second_text u b d close f i

-- What opens two signatures: the first is in hand, and the second put down with what closes them.
pub two_said : (old new : List ℕ) (begin : ℕ) (before after : List Piece) (a b : Bor (List ℕ)) (close d : ℕ) (s u : Sig) →
    a.now ≡ body s → b.now ≡ body u → new ≡ old ++ begin ∷ [] → after ≡ before ++ Second b d close ∷ [] →
    Writes old new before (after ++ Part a d ∷ []) (two (begin ∷ []) (close ∷ []) d s u) (3 * length a.now + 3 * length b.now + 3)
two_said old new begin before after a b close d s u first second begun put =
    let are : after ++ Part a d ∷ [] ≡ before ++ both a b close d =
    ap (λ q. q ++ Part a d ∷ []) put ∙ append_assoc before (Second b d close ∷ []) (Part a d ∷ []) in
    let x : List ℕ = sig_text d s ++ (codes "," ++ (sig_text d u ++ close ∷ [])) in
    record {
      text = (λ i. begun i ++ pieces_text (are i))
          ∙ ap (λ z. (old ++ begin ∷ []) ++ z)
          (pieces_text_append before (both a b close d) ∙ ap (λ z. z ++ pieces_text before) (both_text a b close d s u first second))
          ∙ append_assoc old (begin ∷ []) (x ++ pieces_text before);
      parts = λ q. subst AreParts (sym are)
          (parts_append before (both a b close d) q (record { sig = u; is = second }, (record { sig = s; is = first }, tt)));
      less = let k = ap pieces_work are ∙ pieces_work_append before (both a b close d) in omega (arith, k);
    }

-- A part, by the text of the signature whose words it has.
pub part_said : {E : Type 0} (r : Result (Option Piece) E) (old new : List ℕ) (before after : List Piece) (p : Piece)
    (ws : Bor (List ℕ)) (d : ℕ) → p ≡ Part ws d → IsPart p →
    ((s : Sig) → ws.now ≡ body s → IfOk r (λ h. Writes old new before (after ++ held h) (sig_text d s) (3 * length ws.now))) →
    IfOk r (λ h. Writes old new before (after ++ held h) (piece_text p) (piece_work p))
part_said r old new before after p ws d e part said = go p e part
  where
    go : (p : Piece) → p ≡ Part ws d → IsPart p →
        IfOk r (λ h. Writes old new before (after ++ held h) (piece_text p) (piece_work p))
    go p e part =
        let b : IsBody ws.now = subst IsPart e part in
        subst (λ q. IfOk r (λ h. Writes old new before (after ++ held h) (piece_text q) (piece_work q))) (sym e)
        (if_map r (λ h. writes_as _ _ _ _ (sym (part_text b.sig ws d b.is)) (omega arith)) (said b.sig b.is))

-- The same of the second of two parts.
pub second_part_said : {E : Type 0} (r : Result (Option Piece) E) (old new : List ℕ) (before after : List Piece) (p : Piece)
    (ws : Bor (List ℕ)) (d close : ℕ) → p ≡ Second ws d close → IsPart p →
    ((s : Sig) → ws.now ≡ body s → IfOk r (λ h.
    Writes old new before (after ++ held h) (codes "," ++ (sig_text d s ++ close ∷ [])) (3 * length ws.now + 2))) →
    IfOk r (λ h. Writes old new before (after ++ held h) (piece_text p) (piece_work p))
second_part_said r old new before after p ws d close e part said =
    let b : IsBody ws.now = subst IsPart e part in
    subst (λ q. IfOk r (λ h. Writes old new before (after ++ held h) (piece_text q) (piece_work q))) (sym e)
    (if_map r (λ h. writes_as _ _ _ _ (sym (second_text b.sig ws d close b.is)) (omega arith)) (said b.sig b.is))

-- A mark, as a piece.
pub mark_piece_said : {E : Type 0} (r : Result (Option Piece) E) (old new : List ℕ) (before : List Piece) (p : Piece) (b : ℕ) →
    p ≡ Mark b → IfOk r (λ h. Writes old new before (before ++ held h) (b ∷ []) 1) →
    IfOk r (λ h. Writes old new before (before ++ held h) (piece_text p) (piece_work p))
mark_piece_said r old new before p b e said =
    subst (λ q. IfOk r (λ h. Writes old new before (before ++ held h) (piece_text q) (piece_work q))) (sym e) said

-- The one piece of a signature, with which its text begins.
pub one_piece : (ws : Bor (List ℕ)) (d : ℕ) (s : Sig) (todo : List Piece) → todo ≡ [] → ws.now ≡ body s →
    pieces_text (todo ++ Part ws d ∷ []) ≡ sig_text d s
one_piece ws d s todo none e = ap (λ q. pieces_text (q ++ Part ws d ∷ [])) none ∙ part_text s ws d e

-- One turn: the last piece is taken off and written.
pub turned : (goal old new : List ℕ) (all before after : List Piece) (p : Piece) → all ≡ before ++ p ∷ [] →
    old ++ pieces_text all ≡ goal → Writes old new before after (piece_text p) (piece_work p) → new ++ pieces_text after ≡ goal
turned goal old new all before after p e g w =
    w.text ∙ ap (λ z. old ++ z) (sym (ap pieces_text e ∙ pieces_text_append before (p ∷ []))) ∙ g

pub less_work : (old new : List ℕ) (all before after : List Piece) (p : Piece) → all ≡ before ++ p ∷ [] →
    Writes old new before after (piece_text p) (piece_work p) → pieces_work after < pieces_work all
less_work old new all before after p e w =
    let k = ap pieces_work e ∙ pieces_work_append before (p ∷ []) in omega (arith, k, w.less)

-- A `&` to what is held is a `&` to its box stack: both types have the same fields, and what a box stack hides is known of them. The
-- function goes through a raw pointer, so its proof follows the code by hand.
use Rattle.std.proofs.Common.{◌≡◌, ℕ, take, refl, List, [], ◌∷◌}
use seplogic.Ra.Ura.{Ura}
use mir.Syntax.{Body, named, seq, assign, place, rv_opd, copy, return}
use mir.Val.{Val, vptr}
use base.Logic.{SProp, ent}
use base.Fml.{Lft, Share, ftrue, fsep, flft}
use prog.Memory.{Memory}
use prog.Routine.{Routine}
use prog.Wp.{Env, Calls, Loops, WpFn, Tables}
use types.Logic.{Logic}
use contract.Monad.{Fun}
use contract.Running.{tables, tables_of}
use sound.WpLaws.{WpFn-mono}
use types.Kit.{Item, ⋆, ‵, ◌⊛◌, at_ret, ◌$◌, ◌∵◌, !, qed, move, keep, split, join, fsplit, fjoin, feq_i, suffices, use1, fpack, done}
use types.Run.{stop, of_opd, addr, first, blocks, exec, returns, enter}
use types.ByLocal.{alloc_all, pass_all, free_all, look_at, get, through, sets, sets_last, env}
use denote.Exit.{yes}
use denote.RattleType.{owns}
use denote.Memory.{hidden_shr}
use denote.Ref.{Bor, ShrRef, shr_vals, shr_Tells}
use denote.Builtin.{RefOf}
use denote.Signature.{plain}
use denote.Steps.{nothing}
use denote.Triple.Clauses.{Clauses}
use denote.Triple.Entry.{on_entry}
use denote.Triple.Spec.{Meets, triple_of}
use denote.Triple.Table.{entered}
use denote.Triple.Walked.{says, needs, Stays, stay_dropped, walk_of, ends_at, walked, Goes-dropped, walk_Meets}
use Rattle.token_stacks.specs.declared.held.Held.{Held as HeldD}
use Rattle.token_stacks.specs.Signatures.{Boxes}
use Rattle.token_stacks.specs.Reading.{boxes_of}
use Rattle.token_stacks.specs.Tops.{AreBoxes}
use Rattle.token_stacks.specs.contracts.box_stack.BoxStack as BoxStack
use Rattle.token_stacks.specs.contracts.held.Held as Held
use Rattle.token_stacks.specs.contracts.box_stack.BoxStack.TheInside as Inside
use Rattle.token_stacks.specs.declared.box_stack.BoxStack.TheInside.{Inside as InsideD}
use Rattle.token_stacks.specs.contracts.held.front.Key.{name as #front}
use Rattle.token_stacks.specs.contracts.held.front as front
use Rattle.token_stacks.proofs.held.front.Statement as stated
use Rattle.token_stacks.proofs.held.front.Code as code

abbrev stayed : Stays (front.ended).signature.params (front.ended).kept
stayed = (stay_dropped (RefOf (0 ∷ []) tt (plain (λ _. Held.the_row)) (λ _. tt)) yes, tt)

-- the MIR after the `unsafe` block: its value goes to the result
abbrev after_block : Body
after_block = seq (assign (place 0 []) (rv_opd (copy (place 2 [])))) return

module _ {M : Type 1} {𝓤 : Ura M} (𝓛 : Logic 𝓤) (at_mem : Memory → SProp 𝓤) (run : Routine → Fun 𝓤) where
  open 𝓛 use {H}

  abbrev clauses : Clauses 𝓤 front.ended
  clauses = front.clauses 𝓛 at_mem run

  module _ (κ : Lft) (q : Share) (b o : ℕ) (d : HeldD) where
    abbrev self : Bor HeldD
    self = record { ref_ptr = (b, o); now = d }

    abbrev bound : (walk_of 𝓛 front.ended stayed clauses).Ghost
    bound = (((κ, tt), (q, tt), tt, (self, tt), (vptr b o ∷ [], tt)), tt)

    abbrev Post : Val → SProp 𝓤
    Post = (walk_of 𝓛 front.ended stayed clauses).post bound

    abbrev shown : Boxes
    shown = boxes_of (take d.border d.words.items)

    abbrev fields : InsideD
    fields = record { words = d.words; border = d.border }

    -- what a model's value hides: fields that are seen as it, and what the model promises of them
    abbrev Hidden : Type 0
    Hidden = (a : InsideD) × ((boxes_of (take a.border a.words.items) ≡ shown) × AreBoxes a.words.items a.border)

    -- a `&` to what is held, and to the box stack
    abbrev Had : List (Item 𝓤)
    Had = ‵ ((Held.the_row).shr_at d b o κ) ∷ []

    abbrev Has : List (Item 𝓤)
    Has = ‵ ((BoxStack.the_row).shr_at shown b o κ) ∷ []

    -- the fields of both types lie alike, and what the box stack hides is known of them
    hides : AreBoxes d.words.items d.border → ent 𝓤 (⋆ 𝓛 Had) (⋆ 𝓛 Has)
    hides inside =
        qed 𝓛 Had ∵ nothing ! $ move ! (1 ∷ 0 ∷ []) $ fjoin ! $
        fpack ! Hidden (λ z. fsep ((Inside.the_row).shr_at z.0 b o κ) ftrue) (fields, (refl, inside)) $ done !

    module _ (C : Calls 𝓤 H) (Λ : Loops 𝓤 H) where
      -- what the caller hands over, and what is shown of the call
      abbrev Entry : SProp 𝓤
      Entry = on_entry 𝓛 front.signature (κ, tt) (q, tt) (self, tt) (vptr b o ∷ [], tt)

      abbrev Call : SProp 𝓤
      Call = WpFn 𝓤 H C Λ code.function (vptr b o ∷ []) Post

      walk : AreBoxes d.words.items d.border → ent 𝓤 Entry Call
      walk inside =
          qed 𝓛 ((‵ (flft κ q) ⊛ ‵ ftrue) ∷ ‵ (owns (ShrRef (named 0) κ Held.the_row ∷ []) (self, tt) (vptr b o ∷ [], tt)) ∷ []) ∵
          split ! $ move ! (2 ∷ []) $ fsplit ! $ fsplit ! $ keep ! (1 ∷ 3 ∷ []) $
          enter ! C Λ code.function (vptr b o ∷ []) _ $ alloc_all ! (λ l. pass_all ! refl ((tt, tt), tt) $
          let En : Env 𝓤 H = env (code.function).locals l in
          -- [the `&` to what is held; the token of κ]: it becomes one to the box stack
          use1 𝓛 (‵ (hidden_shr BoxStack.the_row κ shown b o)) (hides inside) $
          -- &*(held as *const Held as *const BoxStack)
          first ! $ blocks ! $
          sets ! (addr ! (through ! refl (stop !))) refl (tt, tt) $
          sets ! (of_opd ! (get ! refl)) refl (tt, tt) $
          sets_last ! (addr ! (through ! refl (stop !))) refl (tt, tt) $
          exec ! C Λ En after_block (at_ret En Post) $ sets ! (of_opd ! (get ! refl)) refl (tt, tt) $
          returns ! (look_at ! 0 refl) $ free_all ! refl $
          -- the `ensures`, the result and the token
          suffices ! _ (ends_at 𝓛 front.ended stayed clauses bound (vptr b o) (record { ref_ptr = (b, o); now = shown })
          (tt, tt) (tt, tt)) $ says ! refl $
          feq_i ! (List Val) (vptr b o ∷ []) (vptr b o ∷ []) refl $ fjoin ! $
          nothing ! $ nothing ! $ fjoin ! $ join ! $ nothing ! $ move ! (2 ∷ 0 ∷ []) $ join ! $ join ! $ done !)

  meets : (𝓣 : Tables 𝓤 H) → Meets 𝓛 front.signature (WpFn 𝓤 H 𝓣.C 𝓣.Λ code.function) (front.spec 𝓛 at_mem run)
  meets 𝓣 =
      walk_Meets 𝓛 front.ended stayed
      (Goes-dropped 𝓛 1 (RefOf (0 ∷ []) tt (plain (λ _. Held.the_row)) (λ _. tt)) yes (λ κs x f. refl), tt)
      clauses (WpFn 𝓤 H 𝓣.C 𝓣.Λ code.function) (WpFn-mono 𝓤 H 𝓛.laws 𝓣 code.function)
      (walked 𝓛 front.ended stayed clauses (WpFn 𝓤 H 𝓣.C 𝓣.Λ code.function)
      (λ κs. (shr_vals, tt)) (λ κs. (shr_Tells (named 0) κs.0 Held.the_row, tt))
      (λ κs qs bounds a g are. needs 𝓤 (AreBoxes a.0.now.words.items a.0.now.border) _
      (walk κs.0 qs.0 a.0.ref_ptr.0 a.0.ref_ptr.1 a.0.now 𝓣.C 𝓣.Λ)))

pub front_spec : {M : Type 1} → stated.statement M
unfolding tables_of
front_spec 𝓤 𝓛 𝓜 𝓡 wired =
    entered 𝓤 𝓛.H (triple_of 𝓛 front.signature (front.spec 𝓛 𝓜.mem 𝓡.returns))
    (tables 𝓤 𝓛.H 𝓜 𝓡 𝓡.env).C (tables 𝓤 𝓛.H 𝓜 𝓡 𝓡.env).Λ #front code.function (code.unfolded 𝓤 𝓛.H 𝓜 𝓡 wired)
    (meets 𝓛 𝓜.mem 𝓡.returns (tables_of 𝓤 𝓛.H 𝓜 (tables 𝓤 𝓛.H 𝓜 𝓡 𝓡.env)))

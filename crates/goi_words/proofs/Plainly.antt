-- Plain words of a command are taken, and ask for what they give.
use Rattle.std.proofs.Common.{◌≡◌, ◌∙◌, ◌∷◌, ◌++◌, refl, sym, subst, append-nil, List, [], codes, inl, inr}
use Rattle.std.specs.List.{AllByRecursion, flat_map}
use Rattle.clap.specs.Walk.{Text, nothing_held}
use Rattle.clap.specs.Simple.{filled}
use Rattle.goi_words.specs.Commands.{CommandRow, choice_rule}
use Rattle.goi_words.specs.Asked.{findings, job_on}
use Rattle.goi_words.specs.Laws.{TakesPlainWords}
use Rattle.goi_words.specs.Plain.{IsPlain, Setting, Value, option_words, setting_words, value_words}
use Rattle.goi_words.proofs.Agreeing.{all_there, absent, apart_from, each, final_rows, given_has_job, job_is_given}
use Rattle.goi_words.proofs.Agreeing.{no_row, plain_rows}
use Rattle.goi_words.proofs.Entering.{below_job}
use Rattle.goi_words.proofs.Levels.{Gives, level_ends, level_gives}
use Rattle.goi_words.proofs.Operands.{Reaches, operand_rows, operands_read}
use Rattle.goi_words.proofs.Ready.{IsReady, cleanly, knows, leaf}
use Rattle.goi_words.proofs.Settings.{choice_named, is_named, known_in, settings_read}
use Rattle.goi_words.proofs.Taken.{AreFound, all_found}
use Rattle.goi_words.proofs.Walks.{Names, then}

-- what holds of everything holds of a list
every : {X : Type 0} {P : X → Type 0} → ((x : X) → P x) → (xs : List X) → AllByRecursion P xs
every f [] = tt
every f (x ∷ xs) = (f x, every f xs)

module _ (c : CommandRow) (ready : IsReady c) (vs : List Value) where
  -- the operands are read, whatever comes behind them
  operands : (ss : List Setting) → IsPlain c vs ss → (rest : List Text)
      → Reaches (leaf c) nothing_held 1 (flat_map value_words vs ++ rest) rest (operand_rows c.operands vs)
  operands ss plain rest =
      operands_read (leaf c) refl c.operands vs 1 nothing_held [] rest ready.placed plain.operands (every (λ o. refl) c.operands)
      (every (λ o. refl) c.operands) (record { there = refl; clean = refl })

  -- and then the options
  reads : (ss : List Setting) → IsPlain c vs ss → Gives (leaf c) (flat_map value_words vs ++ flat_map setting_words ss) (final_rows c vs ss)
  reads [] plain =
      let first = operands [] plain [] in
      level_ends (leaf c) (flat_map value_words vs ++ []) first.stop (plain_rows c vs []) first.leads
      (record { there = first.holds.there ∙ sym (append-nil (operand_rows c.operands vs)); clean = first.holds.clean }) (cleanly c ready)
      (ready.checked (final_rows c vs []) (all_there c ready vs [] plain))
  reads (s ∷ ss) plain =
      let rest = flat_map setting_words (s ∷ ss) in
      let first = operands (s ∷ ss) plain rest in
      let option = plain.options.0 in
      let names : Names (leaf c) (codes "--" ++ s.name) (filled (choice_rule option.choice)) =
      subst (λ n. Names (leaf c) (codes "--" ++ n) (filled (choice_rule option.choice))) (choice_named c.choices s option)
      (is_named (leaf c) c.operands c.choices option.choice (known_in (leaf c) c.operands c.choices (knows c ready) s option)) in
      let between_them = first.ready (filled (choice_rule option.choice)) (codes "--" ++ s.name)
      (option_words s.value ++ flat_map setting_words ss) names in
      let second = settings_read (leaf c) refl c.operands c.choices (knows c ready) (s ∷ ss) first.stop.held (operand_rows c.operands vs)
      first.place plain.options plain.distinct
      (each (λ t o. no_row t.name (operand_rows c.operands vs) (absent c.operands vs t.name plain.operands
      (apart_from (leaf c) c.operands c.choices (knows c ready) t o)).row) (s ∷ ss) plain.options) first.holds in
      level_gives (leaf c) (flat_map value_words vs ++ rest) second.held first.place (plain_rows c vs (s ∷ ss))
      (then (leaf c) _ _ _ _ _ _ first.leads (then (leaf c) _ _ _ _ _ _ between_them second.leads)) second.holds (cleanly c ready)
      (ready.checked (final_rows c vs (s ∷ ss)) (all_there c ready vs (s ∷ ss) plain))

-- plain words of a command
pub takes_plain_words : (c : CommandRow) → IsReady c → TakesPlainWords c
takes_plain_words c ready program vs ss plain =
    let words = flat_map value_words vs ++ flat_map setting_words ss in
    let rows = final_rows c vs ss in
    let gives = reads c ready vs ss plain in
    let entered = below_job program c.name (leaf c) words rows ready.enters gives in
    let found = subst (λ rows. AreFound c (findings rows)) gives.rows_are (all_found c ready words gives.clean) in
    let whole : job_on c.name rows ≡ c.job (findings rows) = ready.job rows in (
      entered ∙ whole ∙ job_is_given c ready vs ss plain,
      elim (given_has_job c ready vs ss plain found.operands found.choices) [
        | inl has ↦ inl (has.0, has.1)
        | inr bad ↦ inr bad
      ],
    )

use Rattle.std.proofs.Common.{rules, arith, ◌≡◌, ◌≤◌, length, subst}
use Rattle.std.specs.Str.{IsUtf8, IsValidUpTo, chars}
use Rattle.pcf_values.specs.Most.{most_program_bytes}
use Rattle.pcf_reader.specs.Machine.{want_expr, whole}
use Rattle.pcf_reader.specs.Scan.{scan}
use Rattle.pcf_reader.specs.Lexing.{lex, idle}
use Rattle.pcf_reader.specs.Rest.{Gives}
use Rattle.pcf_values.specs.Views.{named_of}
use Rattle.std.proofs.Common.{Ok, List, ℕ}
use Rattle.pcf_reader.proofs.Splitting.{given_read, given_fault, given_only, given_fault_only, no_text_only}
use Rattle.pcf_reader.proofs.read_program.Goals as goal

pub returns-in-Ok-clause-found : goal.returns-in-Ok-clause-found
returns-in-Ok-clause-found c =
    let n : length c.args.bytes.now ≤ most_program_bytes = omega arith in
    let u : IsUtf8 c.args.bytes.now = search rules in
    let e : c.in-Ok.text.now ≡ c.args.bytes.now = search rules in
    given_read c.args.bytes.now n u c.read_text.result
    (subst (λ (z : List ℕ). Gives (λ t. Ok (named_of t)) (scan (lex (chars z) 0 idle) (want_expr whole) 0) c.read_text.result) e
    c.read_text.ensures)

pub returns-in-Ok-clause-fault : goal.returns-in-Ok-clause-fault
returns-in-Ok-clause-fault c =
    let n : length c.args.bytes.now ≤ most_program_bytes = omega arith in
    let u : IsUtf8 c.args.bytes.now = search rules in
    let e : c.in-Ok.text.now ≡ c.args.bytes.now = search rules in
    given_fault c.args.bytes.now n u c.read_text.result
    (subst (λ (z : List ℕ). Gives (λ t. Ok (named_of t)) (scan (lex (chars z) 0 idle) (want_expr whole) 0) c.read_text.result) e
    c.read_text.ensures)

pub returns-in-Ok-clause-only : goal.returns-in-Ok-clause-only
returns-in-Ok-clause-only c =
    let e : c.in-Ok.text.now ≡ c.args.bytes.now = search rules in
    λ t h. given_only c.args.bytes.now c.read_text.result t h
    (subst (λ (z : List ℕ). Gives (λ t. Ok (named_of t)) (scan (lex (chars z) 0 idle) (want_expr whole) 0) c.read_text.result) e
    c.read_text.ensures)

pub returns-in-Ok-clause-fault_only : goal.returns-in-Ok-clause-fault_only
returns-in-Ok-clause-fault_only c =
    let n : length c.args.bytes.now ≤ most_program_bytes = omega arith in
    let u : IsUtf8 c.args.bytes.now = search rules in
    let e : c.in-Ok.text.now ≡ c.args.bytes.now = search rules in
    λ f h. given_fault_only c.args.bytes.now n u c.read_text.result f h
    (subst (λ (z : List ℕ). Gives (λ t. Ok (named_of t)) (scan (lex (chars z) 0 idle) (want_expr whole) 0) c.read_text.result) e
    c.read_text.ensures)

pub returns-in-Err-clause-fault_only : goal.returns-in-Err-clause-fault_only
returns-in-Err-clause-fault_only c =
    let n : length c.args.bytes.now ≤ most_program_bytes = omega arith in
    let u : IsUtf8 c.args.bytes.now → ⊥ = search rules in
    let v : IsValidUpTo c.args.bytes.now c.valid_up_to.result = search rules in
    no_text_only c.args.bytes.now c.valid_up_to.result n u v

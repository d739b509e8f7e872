-- Each command of the table is ready: its arguments are found where they stand, and its job is of what is found for them.
-- A command more is one more of these; an option more is one more in `same` and, with a number, in `has_job`.
use Rattle.std.proofs.Common.{◌≡◌, ◌∙◌, ◌∷◌, ◌||◌, ℕ, ap, not, refl, cond, arith, inl, inr, Bool, true, false, None, Some, [], codes}
use Rattle.std.specs.List.{AllByRecursion}
use Rattle.clap.specs.Walk.{walked}
use Rattle.clap.specs.Simple.{built}
use Rattle.clap.specs.Faults.{defaults_fault}
use Rattle.clap.specs.Takes.{is_given as is_row_given}
use Rattle.goi_jobs.specs.Ranges.{IsBudget, IsCells, IsForks, IsWindow, IsWindowIfAny, IsWorkers}
use Rattle.goi_jobs.specs.Jobs.{call, demo, list, replay, text, verilog}
use Rattle.goi_jobs.specs.Tasks.{shown}
use Rattle.goi_jobs.specs.Verilogs.{IsPrinted}
use Rattle.goi_jobs.specs.declared.task.Task.TheVariants.{Check, Run, RunNet, ShowNet, Span, Steps, Trace}
use Rattle.goi_jobs.specs.declared.verilog.Verilog.{Verilog}
use Rattle.goi_jobs.specs.declared.verilog.Verilog.TheVariants as printed
use Rattle.goi_jobs.specs.declared.window.Window.{Window}
use Rattle.goi_words.specs.Findings.{Findings, ◌>>=◌}
use Rattle.goi_words.specs.Commands.{all_go_with, batch_row, call_row, calling_in, check_row, circuit_asked, circuit_in, circuit_job}
use Rattle.goi_words.specs.Commands.{circuit_row, commands, demo_row, goi_command, if_module_name, if_traced, name_in, net_row, no_module}
use Rattle.goi_words.specs.Commands.{no_use, replay_row, run_net_row, run_row, span_row, steps_row, trace_row}
use Rattle.clap.specs.declared.error.kind.ErrorKind.TheVariants as kind
use Rattle.goi_words.proofs.Ready.{HasJobOf, IsReady, leaf}
use Rattle.goi_words.proofs.Taken.{asked}
use Rattle.goi_words.proofs.Tops.{Enters}
use Rattle.clap.specs.Words.{Text}
use Rattle.verilog_names.specs.Name.{module_name}

-- the last check asks for two operands
both_asked : (g h : Bool) → cond (not g || (not h || false)) (kind.MissingRequiredArgument ∷ []) [] ≡ [] → (g ≡ true) × (h ≡ true)
both_asked true true e = (refl, refl)
both_asked true false e = cc
both_asked false h e = cc

-- a part in its ranges is in them where it is asked for
asked_part : (t : Bool) (window : Window) → IsWindow window → IsWindowIfAny (if_traced t window)
asked_part true window is = is
asked_part false window is = tt

-- where no workers are asked for there is one
one_worker : IsWorkers 1
one_worker = (omega arith, omega arith)

-- `run` is entered by its name
run_enters : Enters (built goi_command) (codes "run") (leaf run_row)
unfolding walked defaults_fault
run_enters = record { walk = refl; turn = refl; found = refl; defaults = refl; checked = refl }

-- and is ready
pub run_ready : IsReady run_row
run_ready = record {
  enters = run_enters;
  job = λ rows. refl;
  placed = (refl, refl, tt, tt, refl, tt);
  own = ((refl, refl), tt);
  known = refl;
  defaults = refl;
  checked = λ rows there. rw there.0 refl;
  asks = λ rows clean. ((asked (is_row_given (codes "file") rows) false clean).0, tt);
  same = λ f g os cs gs. rw (os.0, cs.0, cs.1.0, cs.1.1.0, cs.1.1.1.0, cs.1.1.1.1.0, cs.1.1.1.1.1.0) refl;
  has_job = λ f os cs. let file = os.0 in let workers = cs.0 in let budget = cs.1.0 in inl (
    text file.0 workers.0
        (Run budget.0 (calling_in f) (shown (f.is_set (codes "schedule")) (f.is_set (codes "tally")) (f.is_set (codes "progress")))),
    rw (file.1, workers.1, budget.1) refl,
    ((workers.2, workers.3), (budget.2, budget.3)),
  );
}

-- `check` is entered by its name
check_enters : Enters (built goi_command) (codes "check") (leaf check_row)
unfolding walked defaults_fault
check_enters = record { walk = refl; turn = refl; found = refl; defaults = refl; checked = refl }

-- and is ready
pub check_ready : IsReady check_row
check_ready = record {
  enters = check_enters;
  job = λ rows. refl;
  placed = (refl, refl, tt, tt, refl, tt);
  own = ((refl, refl), tt);
  known = refl;
  defaults = refl;
  checked = λ rows there. rw there.0 refl;
  asks = λ rows clean. ((asked (is_row_given (codes "file") rows) false clean).0, tt);
  same = λ f g os cs gs. rw (os.0, cs.0) refl;
  has_job = λ f os cs. let file = os.0 in inl (
    text file.0 1 (Check (f.is_set (codes "term"))),
    rw (file.1) refl,
    (one_worker, tt),
  );
}

-- `net` is entered by its name
net_enters : Enters (built goi_command) (codes "net") (leaf net_row)
unfolding walked defaults_fault
net_enters = record { walk = refl; turn = refl; found = refl; defaults = refl; checked = refl }

-- and is ready
pub net_ready : IsReady net_row
net_ready = record {
  enters = net_enters;
  job = λ rows. refl;
  placed = (refl, refl, tt, tt, refl, tt);
  own = ((refl, refl), tt);
  known = refl;
  defaults = refl;
  checked = λ rows there. rw there.0 refl;
  asks = λ rows clean. ((asked (is_row_given (codes "file") rows) false clean).0, tt);
  same = λ f g os cs gs. rw (os.0) refl;
  has_job = λ f os cs. let file = os.0 in inl (
    text file.0 1 ShowNet,
    rw (file.1) refl,
    (one_worker, tt),
  );
}

-- `replay` is entered by its name
replay_enters : Enters (built goi_command) (codes "replay") (leaf replay_row)
unfolding walked defaults_fault
replay_enters = record { walk = refl; turn = refl; found = refl; defaults = refl; checked = refl }

-- and is ready
pub replay_ready : IsReady replay_row
replay_ready = record {
  enters = replay_enters;
  job = λ rows. refl;
  placed = (refl, refl, (refl, tt), tt, refl, (refl, refl, tt, tt, refl, tt));
  own = ((refl, refl), ((refl, refl), tt));
  known = refl;
  defaults = refl;
  checked = λ rows there. rw (there.0, there.1.0) refl;
  asks = λ rows clean.
      let both = both_asked (is_row_given (codes "file") rows) (is_row_given (codes "schedule") rows) clean in (both.0, (both.1, tt));
  same = λ f g os cs gs. rw (os.0, os.1.0, cs.0, cs.1.0, cs.1.1.0) refl;
  has_job = λ f os cs. let file = os.0 in let schedule = os.1.0 in let from = cs.1.0 in let most = cs.1.1.0 in inl (
    replay file.0 schedule.0 (if_traced (f.is_set (codes "trace")) (record { from = from.0; most = most.0 })),
    rw (file.1, schedule.1, from.1, most.1) refl,
    asked_part (f.is_set (codes "trace")) (record { from = from.0; most = most.0 }) (from.3, (most.2, most.3)),
  );
}

-- `demo` is entered by its name
demo_enters : Enters (built goi_command) (codes "demo") (leaf demo_row)
unfolding walked defaults_fault
demo_enters = record { walk = refl; turn = refl; found = refl; defaults = refl; checked = refl }

-- and is ready
pub demo_ready : IsReady demo_row
demo_ready = record {
  enters = demo_enters;
  job = λ rows. refl;
  placed = (refl, refl, tt, tt, refl, tt);
  own = ((refl, refl), tt);
  known = refl;
  defaults = refl;
  checked = λ rows there. rw there.0 refl;
  asks = λ rows clean. ((asked (is_row_given (codes "n") rows) false clean).0, tt);
  same = λ f g os cs gs. rw (os.0, cs.0) refl;
  has_job = λ f os cs. let n = os.0 in let workers = cs.0 in inl (
    demo n.0 workers.0,
    rw (n.1, workers.1) refl,
    (n.3, (workers.2, workers.3)),
  );
}

-- `run-net` is entered by its name
run_net_enters : Enters (built goi_command) (codes "run-net") (leaf run_net_row)
unfolding walked defaults_fault
run_net_enters = record { walk = refl; turn = refl; found = refl; defaults = refl; checked = refl }

-- and is ready
pub run_net_ready : IsReady run_net_row
run_net_ready = record {
  enters = run_net_enters;
  job = λ rows. refl;
  placed = (refl, refl, tt, tt, refl, tt);
  own = ((refl, refl), tt);
  known = refl;
  defaults = refl;
  checked = λ rows there. rw there.0 refl;
  asks = λ rows clean. ((asked (is_row_given (codes "file") rows) false clean).0, tt);
  same = λ f g os cs gs. rw (os.0, cs.0, cs.1.0, cs.1.1.0, cs.1.1.1.0) refl;
  has_job = λ f os cs. let file = os.0 in let workers = cs.0 in let budget = cs.1.0 in inl (
    text file.0 workers.0 (RunNet budget.0 (shown (f.is_set (codes "schedule")) (f.is_set (codes "tally")) false)),
    rw (file.1, workers.1, budget.1) refl,
    ((workers.2, workers.3), (budget.2, budget.3)),
  );
}

-- `batch` is entered by its name
batch_enters : Enters (built goi_command) (codes "batch") (leaf batch_row)
unfolding walked defaults_fault
batch_enters = record { walk = refl; turn = refl; found = refl; defaults = refl; checked = refl }

-- and is ready
pub batch_ready : IsReady batch_row
batch_ready = record {
  enters = batch_enters;
  job = λ rows. refl;
  placed = (refl, refl, tt, tt, refl, tt);
  own = ((refl, refl), tt);
  known = refl;
  defaults = refl;
  checked = λ rows there. rw there.0 refl;
  asks = λ rows clean. ((asked (is_row_given (codes "file") rows) false clean).0, tt);
  same = λ f g os cs gs. rw (os.0, cs.0) refl;
  has_job = λ f os cs. let file = os.0 in let workers = cs.0 in inl (
    list file.0 workers.0,
    rw (file.1, workers.1) refl,
    (workers.2, workers.3),
  );
}

-- `trace` is entered by its name
trace_enters : Enters (built goi_command) (codes "trace") (leaf trace_row)
unfolding walked defaults_fault
trace_enters = record { walk = refl; turn = refl; found = refl; defaults = refl; checked = refl }

-- and is ready
pub trace_ready : IsReady trace_row
trace_ready = record {
  enters = trace_enters;
  job = λ rows. refl;
  placed = (refl, refl, tt, tt, refl, tt);
  own = ((refl, refl), tt);
  known = refl;
  defaults = refl;
  checked = λ rows there. rw there.0 refl;
  asks = λ rows clean. ((asked (is_row_given (codes "file") rows) false clean).0, tt);
  same = λ f g os cs gs. rw (os.0, cs.0, cs.1.0, cs.1.1.0, cs.1.1.1.0, cs.1.1.1.1.0) refl;
  has_job = λ f os cs.
      let file = os.0 in let workers = cs.0 in let budget = cs.1.0 in let from = cs.1.1.1.0 in let most = cs.1.1.1.1.0 in inl (
        text file.0 workers.0 (Trace budget.0 (calling_in f) (record { from = from.0; most = most.0 })),
        rw (file.1, workers.1, budget.1, from.1, most.1) refl,
        ((workers.2, workers.3), ((budget.2, budget.3), (from.3, (most.2, most.3)))),
      );
}

-- what is asked for of a circuit, by its flags
abbrev by_flags : (run waves bench needs scheduled handshake : Bool) (cells forks budget : ℕ) → Verilog
by_flags run waves bench needs scheduled handshake cells forks budget =
    cond run (printed.Run cells forks budget) (cond waves (printed.Waves cells forks budget) (cond bench (printed.Bench budget)
    (cond needs (printed.Needs budget) (cond scheduled (printed.Schedule budget) (printed.Circuit cells forks handshake)))))

-- with sizes and a budget in their ranges it can be printed
asked_within : (run waves bench needs scheduled handshake : Bool) (cells forks budget : ℕ) → IsCells cells → IsForks forks
    → IsBudget budget → IsPrinted (by_flags run waves bench needs scheduled handshake cells forks budget)
asked_within true waves bench needs scheduled handshake cells forks budget s e b = (b, s, e)
asked_within false true bench needs scheduled handshake cells forks budget s e b = (b, s, e)
asked_within false false true needs scheduled handshake cells forks budget s e b = b
asked_within false false false true scheduled handshake cells forks budget s e b = b
asked_within false false false false true handshake cells forks budget s e b = b
asked_within false false false false false handshake cells forks budget s e b = (s, e)

-- what is found at `circuit` is a job, or it is unfit
circuit_decided : (f : Findings) (file name : Text) (asked : Verilog) → f.text (codes "file") ≡ Some file
    → f.text (codes "name") ≡ Some name → circuit_in f ≡ Some asked → IsPrinted asked → HasJobOf (codes "circuit") f (circuit_job f)
circuit_decided f file name asked file_is name_is asked_is within = go (module_name name) (all_go_with f asked) refl refl
  where
    job_is : name_in f ≡ Some name → all_go_with f asked ≡ true → circuit_job f ≡ Some (verilog file name asked)
    job_is named fits =
        (λ i. file_is i >>= λ file. named i >>= λ name. asked_is i >>= λ asked.
        cond (all_go_with f asked) (Some (verilog file name asked)) None)
        ∙ ap (λ b. cond b (Some (verilog file name asked)) None) fits

    go : (m u : Bool) → module_name name ≡ m → all_go_with f asked ≡ u → HasJobOf (codes "circuit") f (circuit_job f)
    go false u nameless fits = inr (refl, no_module name name_is nameless)
    go true false named unfit = inr (refl, no_use asked asked_is unfit)
    go true true named fits =
        let found = ap (λ o. o >>= if_module_name) name_is ∙ ap (λ b. cond b (Some name) None) named in
        inl (verilog file name asked, job_is found fits, (named, within))

-- `circuit` is entered by its name
circuit_enters : Enters (built goi_command) (codes "circuit") (leaf circuit_row)
unfolding walked defaults_fault
circuit_enters = record { walk = refl; turn = refl; found = refl; defaults = refl; checked = refl }

-- and is ready
pub circuit_ready : IsReady circuit_row
circuit_ready = record {
  enters = circuit_enters;
  job = λ rows. refl;
  placed = (refl, refl, tt, tt, refl, tt);
  own = ((refl, refl), tt);
  known = refl;
  defaults = refl;
  checked = λ rows there. rw there.0 refl;
  asks = λ rows clean. ((asked (is_row_given (codes "file") rows) false clean).0, tt);
  same = λ f g os cs gs.
      let others = cs.1.1.1.1.1.1 in
      let later = gs.1.1.1.1.1.1 in
      rw (
        os.0,
        cs.0,
        cs.1.0,
        cs.1.1.0,
        cs.1.1.1.0,
        cs.1.1.1.1.0,
        cs.1.1.1.1.1.0,
        others.0,
        others.1.0,
        others.1.1.0,
        others.1.1.1.0,
        gs.0,
        gs.1.0,
        gs.1.1.0,
        gs.1.1.1.0,
        gs.1.1.1.1.0,
        gs.1.1.1.1.1.0,
        later.0,
        later.1.0,
        later.1.1.0,
        later.1.1.1.0,
      ) refl;
  has_job = λ f os cs.
      let file = os.0 in let cells = cs.0 in let forks = cs.1.0 in let budget = cs.1.1.0 in let name = cs.1.1.1.1.1.1.1.0 in
      circuit_decided f file.0 name.0 (circuit_asked f cells.0 forks.0 budget.0) file.1 name.1
      (λ i. cells.1 i >>= λ c. forks.1 i >>= λ e. budget.1 i >>= λ b. Some (circuit_asked f c e b))
      (asked_within (f.is_set (codes "run")) (f.is_set (codes "vcd")) (f.is_set (codes "bench")) (f.is_set (codes "needs"))
      (f.is_set (codes "schedule")) (f.is_set (codes "handshake")) cells.0 forks.0 budget.0
      (cells.2, cells.3) (forks.2, forks.3) (budget.2, budget.3));
}

-- `span` is entered by its name
span_enters : Enters (built goi_command) (codes "span") (leaf span_row)
unfolding walked defaults_fault
span_enters = record { walk = refl; turn = refl; found = refl; defaults = refl; checked = refl }

-- and is ready
pub span_ready : IsReady span_row
span_ready = record {
  enters = span_enters;
  job = λ rows. refl;
  placed = (refl, refl, tt, tt, refl, tt);
  own = ((refl, refl), tt);
  known = refl;
  defaults = refl;
  checked = λ rows there. rw there.0 refl;
  asks = λ rows clean. ((asked (is_row_given (codes "file") rows) false clean).0, tt);
  same = λ f g os cs gs. rw (os.0, cs.0, cs.1.0, cs.1.1.0, cs.1.1.1.0) refl;
  has_job = λ f os cs. let file = os.0 in let budget = cs.0 in inl (
    text file.0 1 (Span budget.0 (calling_in f) (f.is_set (codes "profile")) (f.is_set (codes "schedule"))),
    rw (file.1, budget.1) refl,
    (one_worker, (budget.2, budget.3)),
  );
}

-- `steps` is entered by its name
steps_enters : Enters (built goi_command) (codes "steps") (leaf steps_row)
unfolding walked defaults_fault
steps_enters = record { walk = refl; turn = refl; found = refl; defaults = refl; checked = refl }

-- and is ready
pub steps_ready : IsReady steps_row
steps_ready = record {
  enters = steps_enters;
  job = λ rows. refl;
  placed = (refl, refl, tt, tt, refl, tt);
  own = ((refl, refl), tt);
  known = refl;
  defaults = refl;
  checked = λ rows there. rw there.0 refl;
  asks = λ rows clean. ((asked (is_row_given (codes "file") rows) false clean).0, tt);
  same = λ f g os cs gs. rw (os.0, cs.0, cs.1.0, cs.1.1.0) refl;
  has_job = λ f os cs. let file = os.0 in let budget = cs.0 in let from = cs.1.0 in let most = cs.1.1.0 in inl (
    text file.0 1 (Steps budget.0 (record { from = from.0; most = most.0 })),
    rw (file.1, budget.1, from.1, most.1) refl,
    (one_worker, ((budget.2, budget.3), (from.3, (most.2, most.3)))),
  );
}

-- `call` is entered by its name
call_enters : Enters (built goi_command) (codes "call") (leaf call_row)
unfolding walked defaults_fault
call_enters = record { walk = refl; turn = refl; found = refl; defaults = refl; checked = refl }

-- and is ready
pub call_ready : IsReady call_row
call_ready = record {
  enters = call_enters;
  job = λ rows. refl;
  placed = (refl, refl, (refl, tt), tt, refl, (refl, refl, tt, refl, refl, tt));
  own = ((refl, refl), ((refl, refl), tt));
  known = refl;
  defaults = refl;
  checked = λ rows there. rw there.0 refl;
  asks = λ rows clean. ((asked (is_row_given (codes "file") rows) false clean).0, (tt, tt));
  same = λ f g os cs gs. rw (os.0, os.1.0, cs.0, cs.1.0, cs.1.1.0, cs.1.1.1.0) refl;
  has_job = λ f os cs. let file = os.0 in let n = os.1.0 in let workers = cs.0 in let budget = cs.1.0 in inl (
    call file.0 n.0 workers.0 budget.0 (f.is_set (codes "schedule")) (f.is_set (codes "tally")),
    rw (file.1, n.1, workers.1, budget.1) refl,
    ((workers.2, workers.3), (budget.2, budget.3)),
  );
}

-- all of them
pub all_ready : AllByRecursion IsReady commands
all_ready = (
  run_ready,
  (
    check_ready,
    (
      net_ready,
      (
        replay_ready,
        (
          demo_ready,
          (
            run_net_ready,
            (
              batch_ready,
              (
                trace_ready,
                (
                  circuit_ready,
                  (span_ready, (steps_ready, (call_ready, tt))),
                ),
              ),
            ),
          ),
        ),
      ),
    ),
  ),
)

-- Document 01, "Cases": the sheet, line by line and whole, worked out by hand; ASCII: line feed 10, space 32, `0` 48, `a` 97.
use Prim.Native.Nat.{ℕ}
use mathlib.Core.Path.{◌≡◌, refl}
use mathlib.Core.Bool.{Bool, true, false}
use mathlib.Core.List.{List, [], ◌∷◌}
use lib.ListN.{length}
use Rattle.clock.specs.Cycle.{cycle_at}
use Rattle.model.specs.declared.State.{State}
use Rattle.model.specs.declared.State.TheVariants.{Ended, Overrun, Ready, Waiting, Running}
use Rattle.model.specs.declared.Thread.{Thread}
use Rattle.plain.specs.declared.PlainRun.{PlainRun}
use Rattle.sheet.specs.Sheet.{v_line, t_line, n_line, spent_line, refused_line, sheet_of}
use Rattle.sheet.proofs.Computed.{computed}

abbrev thread : ℕ → State → Thread
thread s x = record { segment = s; state = x }

-- a run from its number, variables, threads, count, and whether it is spent
abbrev run : ℕ → List ℕ → List Thread → ℕ → Bool → PlainRun
run number xs ts n spent =
    record { number = number; variables = record { at = xs }; threads = record { at = ts }; n = n; spent = spent }

-- "v: variable, value.": `v 1 126`, `v 63 4294967295`
pub v_line-edges :
    (v_line 1 126 ≡ 118 ∷ 32 ∷ 49 ∷ 32 ∷ 49 ∷ 50 ∷ 54 ∷ 10 ∷ []) ×
    (v_line 63 4294967295 ≡ 118 ∷ 32 ∷ 54 ∷ 51 ∷ 32 ∷ 52 ∷ 50 ∷ 57 ∷ 52 ∷ 57 ∷ 54 ∷ 55 ∷ 50 ∷ 57 ∷ 53 ∷ 10 ∷ [])
unfolding computed
v_line-edges = (refl, refl)

-- "t: thread, segment, state, then the cycle (for wait: event, cycle begun); other states are ready and overrun": `t 0 1 ended 1260 0`,
-- `t 1 3 wait 0 1250 1`, `t 0 1 ready 1260 0`, `t 31 63 overrun 5 1023`; and `t 0 0 running 0 0`
pub t_line-edges :
    (t_line 0 (thread 1 (Ended (cycle_at 1260 0))) ≡ 116 ∷ 32 ∷ 48 ∷ 32 ∷ 49 ∷ 32 ∷ 101 ∷ 110 ∷ 100 ∷ 101 ∷ 100 ∷ 32 ∷ 49 ∷ 50 ∷ 54 ∷ 48 ∷ 32 ∷ 48 ∷ 10 ∷ []) ×
    (t_line 1 (thread 3 (Waiting 0 (cycle_at 1250 1))) ≡ 116 ∷ 32 ∷ 49 ∷ 32 ∷ 51 ∷ 32 ∷ 119 ∷ 97 ∷ 105 ∷ 116 ∷ 32 ∷ 48 ∷ 32 ∷ 49 ∷ 50 ∷ 53 ∷ 48 ∷ 32 ∷ 49 ∷ 10 ∷ []) ×
    (t_line 0 (thread 1 (Ready (cycle_at 1260 0))) ≡ 116 ∷ 32 ∷ 48 ∷ 32 ∷ 49 ∷ 32 ∷ 114 ∷ 101 ∷ 97 ∷ 100 ∷ 121 ∷ 32 ∷ 49 ∷ 50 ∷ 54 ∷ 48 ∷ 32 ∷ 48 ∷ 10 ∷ []) ×
    (t_line 31 (thread 63 (Overrun (cycle_at 5 1023))) ≡ 116 ∷ 32 ∷ 51 ∷ 49 ∷ 32 ∷ 54 ∷ 51 ∷ 32 ∷ 111 ∷ 118 ∷ 101 ∷ 114 ∷ 114 ∷ 117 ∷ 110 ∷ 32 ∷ 53 ∷ 32 ∷ 49 ∷ 48 ∷ 50 ∷ 51 ∷ 10 ∷ []) ×
    (t_line 0 (thread 0 (Running (cycle_at 0 0))) ≡ 116 ∷ 32 ∷ 48 ∷ 32 ∷ 48 ∷ 32 ∷ 114 ∷ 117 ∷ 110 ∷ 110 ∷ 105 ∷ 110 ∷ 103 ∷ 32 ∷ 48 ∷ 32 ∷ 48 ∷ 10 ∷ [])
unfolding computed
t_line-edges = (refl, refl, refl, refl, refl)

-- "n: segments run.": `n 254`, `n 0`
pub n_line-edges :
    (n_line 254 ≡ 110 ∷ 32 ∷ 50 ∷ 53 ∷ 52 ∷ 10 ∷ []) ×
    (n_line 0 ≡ 110 ∷ 32 ∷ 48 ∷ 10 ∷ [])
unfolding computed
n_line-edges = (refl, refl)

-- "a spent run has `spent` as a further last line", and only such a run
pub spent_line-edges :
    (spent_line true ≡ 115 ∷ 112 ∷ 101 ∷ 110 ∷ 116 ∷ 10 ∷ []) ×
    (spent_line false ≡ [])
unfolding computed
spent_line-edges = (refl, refl)

-- "A refused file prints only `refused` and its number.": `refused 7`, `refused 16`
pub refused_line-edges :
    (refused_line 7 ≡ 114 ∷ 101 ∷ 102 ∷ 117 ∷ 115 ∷ 101 ∷ 100 ∷ 32 ∷ 55 ∷ 10 ∷ []) ×
    (refused_line 16 ≡ 114 ∷ 101 ∷ 102 ∷ 117 ∷ 115 ∷ 101 ∷ 100 ∷ 32 ∷ 49 ∷ 54 ∷ 10 ∷ [])
unfolding computed
refused_line-edges = (refl, refl)

-- the sheet of M, whole, as document 01 prints it
pub sheet_of-M :
    sheet_of 3 2 (run 0 (126 ∷ 126 ∷ 126 ∷ []) (thread 1 (Ended (cycle_at 1260 0)) ∷ thread 3 (Waiting 0 (cycle_at 1250 1)) ∷ []) 254 false) ≡ 118 ∷ 32 ∷ 48 ∷ 32 ∷ 49 ∷ 50 ∷ 54 ∷ 10 ∷ 118 ∷ 32 ∷ 49 ∷ 32 ∷ 49 ∷ 50 ∷ 54 ∷ 10 ∷ 118 ∷ 32 ∷ 50 ∷ 32 ∷ 49 ∷ 50 ∷ 54 ∷ 10 ∷ 116 ∷ 32 ∷ 48 ∷ 32 ∷ 49 ∷ 32 ∷ 101 ∷ 110 ∷ 100 ∷ 101 ∷ 100 ∷ 32 ∷ 49 ∷ 50 ∷ 54 ∷ 48 ∷ 32 ∷ 48 ∷ 10 ∷ 116 ∷ 32 ∷ 49 ∷ 32 ∷ 51 ∷ 32 ∷ 119 ∷ 97 ∷ 105 ∷ 116 ∷ 32 ∷ 48 ∷ 32 ∷ 49 ∷ 50 ∷ 53 ∷ 48 ∷ 32 ∷ 49 ∷ 10 ∷ 110 ∷ 32 ∷ 50 ∷ 53 ∷ 52 ∷ 10 ∷ []
unfolding computed
sheet_of-M = refl

-- no v line where V is 0; no t line where T is 0; case 1, and case 13 with `spent` as the last line
pub sheet_of-none :
    (sheet_of 0 1 (run 0 (5 ∷ []) (thread 0 (Ended (cycle_at 0 0)) ∷ []) 1 false) ≡ 116 ∷ 32 ∷ 48 ∷ 32 ∷ 48 ∷ 32 ∷ 101 ∷ 110 ∷ 100 ∷ 101 ∷ 100 ∷ 32 ∷ 48 ∷ 32 ∷ 48 ∷ 10 ∷ 110 ∷ 32 ∷ 49 ∷ 10 ∷ []) ×
    (sheet_of 0 1 (run 0 [] (thread 0 (Ready (cycle_at 0 0)) ∷ []) 0 true) ≡ 116 ∷ 32 ∷ 48 ∷ 32 ∷ 48 ∷ 32 ∷ 114 ∷ 101 ∷ 97 ∷ 100 ∷ 121 ∷ 32 ∷ 48 ∷ 32 ∷ 48 ∷ 10 ∷ 110 ∷ 32 ∷ 48 ∷ 10 ∷ 115 ∷ 112 ∷ 101 ∷ 110 ∷ 116 ∷ 10 ∷ []) ×
    (sheet_of 1 0 (run 0 (5 ∷ 6 ∷ []) [] 2 false) ≡ 118 ∷ 32 ∷ 48 ∷ 32 ∷ 53 ∷ 10 ∷ 110 ∷ 32 ∷ 50 ∷ 10 ∷ [])
unfolding computed
sheet_of-none = (refl, refl, refl)

-- a number and nothing else, whatever stands beside it; 0 is no refusal
pub sheet_of-refused :
    (sheet_of 1 1 (run 11 (5 ∷ []) (thread 0 (Ended (cycle_at 0 0)) ∷ []) 1 true) ≡ 114 ∷ 101 ∷ 102 ∷ 117 ∷ 115 ∷ 101 ∷ 100 ∷ 32 ∷ 49 ∷ 49 ∷ 10 ∷ []) ×
    (sheet_of 1 1 (run 1 (5 ∷ []) (thread 0 (Ended (cycle_at 0 0)) ∷ []) 1 true) ≡ 114 ∷ 101 ∷ 102 ∷ 117 ∷ 115 ∷ 101 ∷ 100 ∷ 32 ∷ 49 ∷ 10 ∷ []) ×
    (sheet_of 0 0 (run 0 [] [] 3 false) ≡ 110 ∷ 32 ∷ 51 ∷ 10 ∷ [])
unfolding computed
sheet_of-refused = (refl, refl, refl)

-- as many lines as there are places: `v 0 0` to `v 9 0` are 6 bytes, `v 10 0` to `v 63 0` are 7, `n 0` is 4;
-- `t 0 0 ended 0 0` is 16 bytes, and 17 from thread 10 on
pub sheet_of-places :
    (length (sheet_of 63 0 (run 0 [] [] 0 false)) ≡ 435) ×
    (length (sheet_of 64 0 (run 0 [] [] 0 false)) ≡ 442) ×
    (length (sheet_of 65 0 (run 0 [] [] 0 false)) ≡ 442) ×
    (length (sheet_of 0 31 (run 0 [] [] 0 false)) ≡ 521) ×
    (length (sheet_of 0 32 (run 0 [] [] 0 false)) ≡ 538) ×
    (length (sheet_of 0 33 (run 0 [] [] 0 false)) ≡ 538)
unfolding computed
sheet_of-places = (refl, refl, refl, refl, refl, refl)

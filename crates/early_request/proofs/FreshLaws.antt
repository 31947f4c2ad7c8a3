-- The fresh state and the fresh records, as the code fills them.
use Prim.Native.Nat.{ℕ, ◌+◌, ◌<◌, ◌≤◌}
use mathlib.Core.Path.{◌≡◌, refl, ap, ◌∙◌}
use mathlib.Core.List.{List}
use lib.ListN.{set, replicate}
use borrow.Author.Tests.{eq-eqb, ne_eqb}
use Rattle.base.specs.Index.{tabulate}
use Rattle.clock.specs.Cycle.{cycle_at}
use Rattle.model.specs.declared.Model.{Model}
use Rattle.model.specs.declared.State.TheVariants.{Ready}
use Rattle.model.specs.declared.Start.{Start}
use Rattle.model.specs.declared.Thread.{Thread}
use Rattle.model.specs.declared.Threads.{Threads}
use Rattle.model.specs.Values.{start_at}
use Rattle.model.specs.Record.{no_thread}
use Rattle.model.specs.Rules.{model_fault}
use Rattle.plain.specs.Start.{started, fresh_threads}
use Rattle.early.specs.declared.Site.{Site}
use Rattle.early.specs.Log.{pair_of, site_of}
use Rattle.early.specs.Request.{fresh_site}
use Rattle.early_deliver.proofs.FillLaws.{filled_to, fill_none, fill_more, fill-all}
use Rattle.early_request.specs.Fresh.{fresh_of}

pub fresh_site-made : record { variables = record { at = replicate 64 0 }; log = replicate 128 (pair_of 0 (cycle_at 0 0)); count = 0 } ≡ fresh_site
unfolding fresh_site site_of
fresh_site-made = refl

module _ (m : Model) where
  -- the first k records are started
  abbrev pub started_to : ℕ → List Thread
  started_to k = tabulate 32 0 (filled_to (λ i. started (start_at m i)) no_thread k)

  pub started_none : (ts : List Thread) → ts ≡ replicate 32 no_thread → ts ≡ started_to 0
  started_none ts e = e ∙ fill_none (λ i. started (start_at m i)) no_thread

  pub started-more : (ts : List Thread) (k : ℕ) (x : Start) → k < 32 → x ≡ start_at m k → ts ≡ started_to k
      → set ts k (record { segment = x.first; state = Ready (cycle_at 0 0) }) ≡ started_to (k + 1)
  unfolding started
  started-more ts k x h f e = rw (e, f) (fill_more (λ i. started (start_at m i)) no_thread k h)

  pub started-all : (ts : List Thread) (k : ℕ) → k ≡ m.t → m.t ≤ 32 → ts ≡ started_to k → ts ≡ fresh_threads m
  unfolding fresh_threads
  started-all ts k e h f = f ∙ rw e (fill-all (λ i. started (start_at m i)) no_thread m.t h)

  module _ (site : Site) (ts : Threads) (e : site ≡ fresh_site) where
    pub fresh-refused : (model_fault m ≡ 0 → ⊥) → ts ≡ record { at = replicate 32 no_thread } → record { number = 11; site = site; threads = ts } ≡ fresh_of m
    unfolding fresh_of
    fresh-refused h g = rw (ne_eqb (model_fault m) 0 h, e, g) refl

    pub fresh-accepted : model_fault m ≡ 0 → ts.at ≡ fresh_threads m → record { number = 0; site = site; threads = ts } ≡ fresh_of m
    unfolding fresh_of
    fresh-accepted h f =
        let g : ts ≡ record { at = fresh_threads m } = ap (λ (xs : List Thread). record { at = xs }) f in
        rw (eq-eqb (model_fault m) 0 h, e, g) refl

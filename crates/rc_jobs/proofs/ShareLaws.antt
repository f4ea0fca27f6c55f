-- Causes that stay, and two shares as one.
use Rattle.std.proofs.Common.{ℕ, Result, Ok, Err, IfOk, IfErr}
use Rattle.std.proofs.lemmas.Result.{IfOk-weaker}
use Rattle.rc_nodes.specs.Seats.{TableView, SeatView, IsSeatOf, Keeps, IsFull}
use Rattle.rc_bdd.specs.Work.{IsCause}
use Rattle.rc_bdd.specs.declared.work.SetError.{SetError}
use Rattle.rc_bdd.specs.declared.work.SetError.TheVariants.{Memory}
use Rattle.rc_jobs.specs.Shares.{IsMadeOf}

-- ---- a cause

full_kept : (nodes : TableView) (v w : SeatView) → Keeps v w → IsFull nodes v → IsFull nodes w
full_kept nodes v w keeps full =
    let c = full.1 in (
      full.0,
      record {
        trees = c.trees;
        count = c.count;
        distinct = c.distinct;
        known = λ t among. let k = c.known t among in (k.0, keeps k.0 t k.1);
        allowed = c.allowed;
        further = c.further;
        wanted_allowed = c.wanted_allowed;
      },
    )

pub memory_cause : (nodes : TableView) (v : SeatView) → IsCause nodes v Memory
memory_cause nodes v is = absurd (let wrong : ⊥ = cc (is) in wrong)

pub cause_kept : {V : Type 0} (nodes : TableView) (v w : SeatView) → Keeps v w → (r : Result V SetError) → IfErr r (IsCause nodes v) → IfErr r (IsCause nodes w)
cause_kept nodes v w keeps (Ok x) c = tt
cause_kept nodes v w keeps (Err e) c = λ is. full_kept nodes v w keeps (c is)

-- ---- two shares as one

module _ {X : Type 0} (nodes : TableView) (knows : SeatView → ℕ → ℕ → X → Type 0) (stays : (v w : SeatView) (a b : ℕ) (x : X) → Keeps v w → knows v a b x → knows w a b x) where
  -- made by who had a seat's halves, and one seat again
  pub halves_join : (before mine theirs mine' theirs' after : SeatView) (a b c : ℕ) (left right whole : Result X SetError)
      → Keeps before mine → IsMadeOf nodes knows mine a b mine' left → IsMadeOf nodes knows theirs b c theirs' right → IsSeatOf nodes after → Keeps mine' after → Keeps theirs' after
      → (IfOk left (knows after a b) → IfOk right (knows after b c) → IfOk whole (knows after a c))
      → (IfErr left (IsCause nodes after) → IfErr right (IsCause nodes after) → IfErr whole (IsCause nodes after))
      → IsMadeOf nodes knows before a c after whole
  halves_join before mine theirs mine' theirs' after a b c left right whole part l r seat keeps gains made cause = record {
    seat = seat;
    keeps = λ i t known. keeps i t (l.keeps i t (part i t known));
    made = made (IfOk-weaker left (knows mine' a b) (knows after a b) (λ x is. stays mine' after a b x keeps is) l.made) (IfOk-weaker right (knows theirs' b c) (knows after b c) (λ x is. stays theirs' after b c x gains is) r.made);
    cause = cause (cause_kept nodes mine' after keeps left l.cause) (cause_kept nodes theirs' after gains right r.cause);
  }

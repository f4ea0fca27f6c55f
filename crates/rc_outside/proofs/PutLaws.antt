-- Texts that are put to a sink one after another.
use Rattle.std.proofs.Common.{◌≡◌, ℕ, ◌+◌, ◌<◌, List, [], ◌∷◌, ◌++◌, Option, Some, None, Result, Ok, Err, IsErr, refl, sym, ap, ◌∙◌, subst, append_assoc, append-nil, take, drop, length, get_or, flat_map, arith}
use Rattle.std.proofs.lemmas.List.{take-append-drop, take_more}
use Rattle.std.proofs.lemmas.List.Concat.{flat_map-append}
use Rattle.rc_outside.specs.Sink.{appended, AppendsFront}
use Rattle.rc_outside.specs.Put.{CountsFault, IsPut, HasPut, IsPutByHand}
use Rattle.rc_outside.specs.declared.sink.Sink.{Ghosts}

appended-appended : (o : Option (List ℕ)) (a b : List ℕ) → appended (appended o a) b ≡ appended o (a ++ b)
appended-appended None a b = refl
appended-appended (Some bytes) a b = ap Some (append_assoc bytes a b)

pub appended-nothing : (o : Option (List ℕ)) → o ≡ appended o []
appended-nothing None = refl
appended-nothing (Some bytes) = ap Some (sym (append-nil bytes))

-- a front of what follows a text, and of a text with more behind it
front-then : {before now after : Option (List ℕ)} (x y : List ℕ) → now ≡ appended before x → AppendsFront now after y → AppendsFront before after (x ++ y)
front-then {before} {now} {after} x y h k = record {
  front = x ++ k.front;
  back = k.back;
  whole = ap (λ t. x ++ t) k.whole ∙ sym (append_assoc x k.front k.back);
  told = k.told ∙ ap (λ o. appended o k.front) h ∙ appended-appended before x k.front;
}

front-longer : {before after : Option (List ℕ)} (x y : List ℕ) → AppendsFront before after x → AppendsFront before after (x ++ y)
front-longer {before} {after} x y k = record {
  front = k.front;
  back = k.back ++ y;
  whole = ap (λ t. t ++ y) k.whole ∙ append_assoc k.front k.back y;
  told = k.told;
}

-- what was in hand is put, or a front of it
parted-put : {before now after : Option (List ℕ)} {all hand : List ℕ} → HasPut before now all hand → after ≡ appended now hand → after ≡ appended before all
parted-put {before} {now} {after} {all} {hand} h e = e ∙ ap (λ o. appended o hand) h.told ∙ appended-appended before h.front hand ∙ ap (appended before) (sym h.whole)

parted-failed : {before now after : Option (List ℕ)} {all hand : List ℕ} → HasPut before now all hand → AppendsFront now after hand → AppendsFront before after all
parted-failed {before} {now} {after} {all} {hand} h k = subst (AppendsFront before after) (sym h.whole) (front-then h.front hand h.told k)

-- more bytes behind those that were put and those in hand
parted-longer : {before now : Option (List ℕ)} {all hand : List ℕ} (y : List ℕ) → HasPut before now all hand → HasPut before now (all ++ y) (hand ++ y)
parted-longer {before} {now} {all} {hand} y h = record { front = h.front; whole = ap (λ t. t ++ y) h.whole ∙ append_assoc h.front hand y; told = h.told }

parted-then : {before now after : Option (List ℕ)} {all hand left : List ℕ} → HasPut before now all hand → HasPut now after hand left → HasPut before after all left
parted-then {before} {now} {after} {all} {hand} {left} h k = record {
  front = h.front ++ k.front;
  whole = h.whole ∙ ap (λ t. h.front ++ t) k.whole ∙ sym (append_assoc h.front k.front left);
  told = k.told ∙ ap (λ o. appended o k.front) h.told ∙ appended-appended before h.front k.front;
}

faults-then : {E : Type 0} {a b c : ℕ} {u : Unit {0}} {r : Result (Unit {0}) E} → CountsFault {E = E} a b (Ok u) → CountsFault b c r → CountsFault a c r
faults-then {c = c} {r = r} h k = subst (λ n. CountsFault n c r) h.left k

still_fault : {E : Type 0} {a b : ℕ} {e f : E} → CountsFault a b (Err e) → CountsFault a b (Err f)
still_fault h = record { left = tt; later = h.later; cause = h.cause }

faults-none : {E : Type 0} (a : ℕ) → CountsFault {E = E} a a (Ok tt)
faults-none a = record { left = refl; later = omega arith; cause = tt }

-- the texts of a list's elements, one element more
each-more : {X : Type 0} (f : X → List ℕ) (xs : List X) (i : ℕ) (x : X) → i < length xs → x ≡ get_or xs i x → flat_map f (take i xs) ++ f x ≡ flat_map f (take (i + 1) xs)
each-more f xs i x lt is = sym (ap (flat_map f) (take_more xs i x lt) ∙ flat_map-append f (take i xs) (get_or xs i x ∷ []) ∙ ap (λ t. flat_map f (take i xs) ++ t) (append-nil (f (get_or xs i x)) ∙ ap f (sym is)))

each-all : {X : Type 0} (f : X → List ℕ) (xs : List X) (i : ℕ) → flat_map f (take i xs) ++ flat_map f (drop i xs) ≡ flat_map f xs
each-all f xs i = sym (ap (flat_map f) (sym (take-append-drop i xs)) ∙ flat_map-append f (take i xs) (drop i xs))

-- behind a line begun
line_more : {X : Type 0} (f : X → List ℕ) (xs : List X) (i : ℕ) (x : X) (line text : List ℕ) → i < length xs → x ≡ get_or xs i x → text ≡ f x → (line ++ flat_map f (take i xs)) ++ text ≡ line ++ flat_map f (take (i + 1) xs)
line_more f xs i x line text lt is same = append_assoc line (flat_map f (take i xs)) text ∙ ap (λ t. line ++ (flat_map f (take i xs) ++ t)) same ∙ ap (λ t. line ++ t) (each-more f xs i x lt is)

module _ {S : Type 0} {sink : Ghosts S} {E : Type 0} where
  -- where no call is made nothing is put, and what was in hand is
  pub put_none : (s : S) → IsPut sink {E = E} s s (Ok tt) []
  put_none s = record { ok = appended-nothing (sink.told s); err = tt; faults = faults-none (sink.faults s) }

  pub hand_none : (s : S) (hand : List ℕ) → IsPutByHand sink {E = E} s s (Ok tt) hand hand
  hand_none s hand = record { ok = record { front = []; whole = refl; told = appended-nothing (sink.told s) }; err = tt; faults = faults-none (sink.faults s) }

  -- one text, and another behind it
  pub put_then : {old now new : S} {u : Unit {0}} {r : Result (Unit {0}) E} {x y : List ℕ} → IsPut sink {E = E} old now (Ok u) x → IsPut sink now new r y → IsPut sink old new r (x ++ y)
  put_then {old = old} {r = Ok v} {x = x} {y = y} h k = record {
    ok = k.ok ∙ ap (λ o. appended o y) h.ok ∙ appended-appended (sink.told old) x y;
    err = tt;
    faults = faults-then h.faults k.faults;
  }
  put_then {r = Err e} {x = x} {y = y} h k = record { ok = tt; err = front-then x y h.ok k.err; faults = faults-then h.faults k.faults }

  -- nothing follows the text at which the sink failed, and the failure is answered
  pub put_stopped : {old new : S} {e : E} {r : Result (Unit {0}) E} {x : List ℕ} (y : List ℕ) → IsErr r → IsPut sink old new (Err e) x → IsPut sink old new r (x ++ y)
  put_stopped {r = Ok v} {x = x} y err h = absurd (cc)
  put_stopped {r = Err f} {x = x} y err h = record { ok = tt; err = front-longer x y h.err; faults = still_fault h.faults }

  -- by way of a buffer: more bytes behind a text, of which a part is in hand
  pub hand_then : {old now new : S} {u : Unit {0}} {r : Result (Unit {0}) E} {x hand : List ℕ} (y : List ℕ) {left : List ℕ} → IsPutByHand sink {E = E} old now (Ok u) x hand → IsPutByHand sink now new r (hand ++ y) left
      → IsPutByHand sink old new r (x ++ y) left
  hand_then {r = Ok v} y h k = record { ok = parted-then (parted-longer y h.ok) k.ok; err = tt; faults = faults-then h.faults k.faults }
  hand_then {r = Err e} y h k = record { ok = tt; err = parted-failed (parted-longer y h.ok) k.err; faults = faults-then h.faults k.faults }

  -- what is in hand goes to the sink
  pub hand_put : {old now new : S} {u : Unit {0}} {r : Result (Unit {0}) E} {all hand : List ℕ} → IsPutByHand sink {E = E} old now (Ok u) all hand → IsPut sink now new r hand → IsPut sink old new r all
  hand_put {r = Ok v} h k = record { ok = parted-put h.ok k.ok; err = tt; faults = faults-then h.faults k.faults }
  hand_put {r = Err e} h k = record { ok = tt; err = parted-failed h.ok k.err; faults = faults-then h.faults k.faults }

  -- with more bytes behind it
  pub hand_ended : {old now new : S} {u : Unit {0}} {r : Result (Unit {0}) E} {x hand : List ℕ} (y : List ℕ) → IsPutByHand sink {E = E} old now (Ok u) x hand → IsPut sink now new r (hand ++ y) → IsPut sink old new r (x ++ y)
  hand_ended y h k = hand_put (record { ok = parted-longer y h.ok; err = tt; faults = h.faults }) k

  -- the sink failed: then it doesn't matter what is in hand
  pub hand_stopped : {old new : S} {e : E} {r : Result (Unit {0}) E} {x left : List ℕ} (y rest : List ℕ) → IsErr r → IsPutByHand sink old new (Err e) x left → IsPutByHand sink old new r (x ++ y) rest
  hand_stopped {r = Ok v} {x = x} y rest err h = absurd (cc)
  hand_stopped {r = Err f} {x = x} y rest err h = record { ok = tt; err = front-longer x y h.err; faults = still_fault h.faults }

  pub hand_any : {old new : S} {e : E} {r : Result (Unit {0}) E} {all left : List ℕ} (rest : List ℕ) → IsErr r → IsPutByHand sink old new (Err e) all left → IsPutByHand sink old new r all rest
  hand_any {r = Ok v} rest err h = absurd (cc)
  hand_any {r = Err f} rest err h = record { ok = tt; err = h.err; faults = still_fault h.faults }

  pub line_stopped : {old new : S} {e : E} {r : Result (Unit {0}) E} {x left : List ℕ} (y : List ℕ) → IsErr r → IsPutByHand sink old new (Err e) x left → IsPut sink old new r (x ++ y)
  line_stopped {r = Ok v} y err h = absurd (cc)
  line_stopped {r = Err f} {x = x} y err h = record { ok = tt; err = front-longer x y h.err; faults = still_fault h.faults }

  -- a piece of what is in hand goes to the sink
  pub hand_piece : {old now new : S} {u : Unit {0}} {r : Result (Unit {0}) E} {all : List ℕ} (piece left : List ℕ) → IsPutByHand sink {E = E} old now (Ok u) all (piece ++ left) → IsPut sink now new r piece
      → IsPutByHand sink old new r all left
  hand_piece {r = Ok v} piece left h k = record { ok = parted-then h.ok (record { front = piece; whole = refl; told = k.ok }); err = tt; faults = faults-then h.faults k.faults }
  hand_piece {r = Err e} piece left h k = record { ok = tt; err = parted-failed h.ok (front-longer piece left k.err); faults = faults-then h.faults k.faults }

  -- a loop that puts the text of each element: one element more, and the one at which the sink failed
  pub each_put : {old now new : S} {u v : Unit {0}} {X : Type 0} (f : X → List ℕ) (xs : List X) (i : ℕ) (x : X) → i < length xs → x ≡ get_or xs i x
      → IsPut sink {E = E} old now (Ok u) (flat_map f (take i xs)) → IsPut sink {E = E} now new (Ok v) (f x) → IsPut sink {E = E} old new (Ok v) (flat_map f (take (i + 1) xs))
  each_put {old} {now} {new} {u} {v} f xs i x lt is h k = subst (IsPut sink old new (Ok v)) (each-more f xs i x lt is) (put_then h k)

  pub each_stopped : {old now new : S} {u : Unit {0}} {e : E} {r : Result (Unit {0}) E} {X : Type 0} (f : X → List ℕ) (xs : List X) (i : ℕ) (x : X) → IsErr r → i < length xs → x ≡ get_or xs i x
      → IsPut sink {E = E} old now (Ok u) (flat_map f (take i xs)) → IsPut sink now new (Err e) (f x) → IsPut sink old new r (flat_map f xs)
  each_stopped {old} {now} {new} {u} {e} {r} f xs i x err lt is h k =
      let so_far = subst (IsPut sink old new (Err e)) (each-more f xs i x lt is) (put_then h k) in
      subst (IsPut sink old new r) (each-all f xs (i + 1)) (put_stopped (flat_map f (drop (i + 1) xs)) err so_far)

  -- the same behind a line begun
  pub each_hand : {old now new : S} {u v : Unit {0}} {X : Type 0} (f : X → List ℕ) (xs : List X) (i : ℕ) (x : X) (line text : List ℕ) {hand left : List ℕ} → i < length xs → x ≡ get_or xs i x → text ≡ f x
      → IsPutByHand sink {E = E} old now (Ok u) (line ++ flat_map f (take i xs)) hand → IsPutByHand sink {E = E} now new (Ok v) (hand ++ text) left → IsPutByHand sink {E = E} old new (Ok v) (line ++ flat_map f (take (i + 1) xs)) left
  each_hand {old} {now} {new} {u} {v} f xs i x line text {hand} {left} lt is same h k =
      subst (λ t. IsPutByHand sink {E = E} old new (Ok v) t left) (line_more f xs i x line text lt is same) (hand_then text h k)

  pub each_hand_stopped : {old now new : S} {u : Unit {0}} {e : E} {r : Result (Unit {0}) E} {X : Type 0} (f : X → List ℕ) (xs : List X) (i : ℕ) (x : X) (line text : List ℕ) {hand left : List ℕ} (rest : List ℕ) → IsErr r → i < length xs → x ≡ get_or xs i x
      → text ≡ f x → IsPutByHand sink {E = E} old now (Ok u) (line ++ flat_map f (take i xs)) hand → IsPutByHand sink now new (Err e) (hand ++ text) left → IsPutByHand sink old new r (line ++ flat_map f xs) rest
  each_hand_stopped {old} {now} {new} {u} {e} {r} f xs i x line text {hand} {left} rest err lt is same h k =
      let so_far = subst (λ t. IsPutByHand sink old new (Err e) t left) (line_more f xs i x line text lt is same) (hand_then text h k) in
      let longer = append_assoc line (flat_map f (take (i + 1) xs)) (flat_map f (drop (i + 1) xs)) ∙ ap (λ t. line ++ t) (each-all f xs (i + 1)) in
      subst (λ t. IsPutByHand sink old new r t rest) longer (hand_stopped (flat_map f (drop (i + 1) xs)) rest err so_far)

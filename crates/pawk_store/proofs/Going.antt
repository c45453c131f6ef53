-- Parts of runs over two worlds that go together, and what keeps them together.
use Rattle.std.proofs.Common.{◌≡◌, ℕ, zero, suc, List, ◌++◌, refl, ap, ◌∙◌, subst, inl, inr, ⊎_elim, Bool, true, false, if◌then◌else◌, Result, Ok, Err}
use Rattle.pawk_value.specs.declared.faults.Fault.{Fault}
use Rattle.pawk_value.specs.Value.{Val}
use Rattle.pawk_value.specs.Conversion.{num_of, text_of, truth_of}
use Rattle.pawk_record.specs.Records.{Record}
use Rattle.pawk_world.specs.Halts.{Halt}
use Rattle.pawk_world.specs.Halts as halt
use Rattle.pawk_world.specs.Worlds.{Request, Answer, Calls}
use Rattle.pawk_world.specs.Worlds as world
use Rattle.pawk_store.specs.RecordStates.{RecordState}
use Rattle.pawk_store.specs.Parts.{Hold, Moment, Outcome, gives, halts, Part, give, halt_with, settle, ask, then_do, bind, as_number, as_truth, as_text, tick, tick_at}
use Rattle.pawk_store.specs.Places.{with_record, text_at}
use Rattle.pawk_store.specs.Meaning.{decide}
use Rattle.pawk_store.specs.Lockstep.{variable_slot, looks, access_of, resource_of, Pair, AllHeld, refusal_of, state_of, SameAnswer, SameMoment, SameOutcome, AreInLockstep, InStep, EndsBy, FirstGoesOn, SecondGoesOn}
use Rattle.pawk_store.proofs.Later.{Any, Near, near, nearby, Meets, Order, any_order, meets_weak, Later, later_then, reaches_then, later_nearby, later_halt, later_tick, later_ask, reaches_ask}

near_alike : {S T : Type 0} (w : Pair S T) (m : Moment S) (n : Moment T) → SameMoment w m n → near m ≡ near n
near_alike w m n same =
    ap (λ x. record { state = x; frame = m.frame; arrays = m.arrays }) same.states
    ∙ ap (λ x. record { state = n.state; frame = x; arrays = m.arrays }) same.frames
    ∙ ap (λ x. record { state = n.state; frame = n.frame; arrays = x }) same.arrays

-- two worlds in lockstep, each of which goes on, and an order of record states
pub record Track (S T : Type 0) : Type 1 where
  pub pair : Pair S T
  pub lockstep : AreInLockstep pair
  pub first : FirstGoesOn pair
  pub second : SecondGoesOn pair
  pub order : Order pair.permits

module _ {S T : Type 0} where
  -- in any order of record states
  abbrev pub track : (w : Pair S T) → AreInLockstep w → FirstGoesOn w → SecondGoesOn w → Track S T
  track w step on on' = record { pair = w; lockstep = step; first = on; second = on'; order = any_order w.permits }

  abbrev pub Held : Track S T → List Hold → Type 0
  Held t frame = AllHeld t.pair.permits frame

  abbrev pub FirstLater : {X : Type 0} (t : Track S T) (P : X → Type 0) → Moment S → Outcome S X → Type 0
  FirstLater t P m o = Later t.pair.permits (EndsBy t.first) t.pair.before t.order P m o

  abbrev pub SecondLater : {X : Type 0} (t : Track S T) (P : X → Type 0) → Moment T → Outcome T X → Type 0
  SecondLater t P m o = Later t.pair.permits (EndsBy t.second) t.pair.before_second t.order P m o

  -- two parts go together, and give values of which P holds
  pub record Goes (t : Track S T) {X : Type 0} (P : X → Type 0) (p : Part S X) (q : Part T X) : Type 0 where
    pub first : (m : Moment S) → Held t m.frame → FirstLater t P m (p m)
    pub second : (n : Moment T) → Held t n.frame → SecondLater t P n (q n)
    pub alike : (m : Moment S) (n : Moment T) → SameMoment t.pair m n → Held t m.frame → InStep t.pair (p m) (q n)

-- moments that are the same but for the worlds
module _ {S T : Type 0} (w : Pair S T) where
  pub held_too : (m : Moment S) (n : Moment T) → SameMoment w m n → AllHeld w.permits m.frame → AllHeld w.permits n.frame
  held_too m n same held = subst (AllHeld w.permits) same.frames held

  nearby_alike : {X : Type 0} (e : X × Near) (f : X × Near) (m : Moment S) (n : Moment T) → e ≡ f → SameMoment w m n → InStep w (nearby e m) (nearby f n)
  nearby_alike e f m n is same = inl (
    ap (λ x. x.0) is,
    record {
      worlds = same.worlds;
      states = ap (λ x. x.1.state) is;
      frames = ap (λ x. x.1.frame) is;
      arrays = ap (λ x. x.1.arrays) is;
      outputs = same.outputs;
      lefts = same.lefts;
    },
  )

  tick_alike : (k : ℕ) (m : Moment S) (n : Moment T) → SameMoment w m n → InStep w (tick_at k m) (tick_at k n)
  tick_alike zero m n same = inl (refl, same.worlds, same.states, same.outputs)
  tick_alike (suc k) m n same = inl (refl, record { worlds = same.worlds; states = same.states; frames = same.frames; arrays = same.arrays; outputs = same.outputs; lefts = refl })

  same_ask : {X : Type 0} (a : Answer S X) (b : Answer T X) (m : Moment S) (n : Moment T) → SameMoment w m n → SameAnswer w.alike a b → SameOutcome w (ask a m) (ask b n)
  same_ask (world.gives x s) (world.gives y u) m n same e = (e.0, record { worlds = e.1; states = same.states; frames = same.frames; arrays = same.arrays; outputs = same.outputs; lefts = same.lefts })
  same_ask (world.halts i s) (world.halts j u) m n same e = (e.0, e.1, same.states, same.outputs)
  same_ask (world.gives x s) (world.halts j u) m n same e = absurd e
  same_ask (world.halts i s) (world.gives y u) m n same e = absurd e

module _ {S T : Type 0} {t : Track S T} where
  same_then : {X Y : Type 0} (P : X → Type 0) (Q : Y → Type 0) (o : Outcome S X) (p : Outcome T X) (k : X → Part S Y) (l : X → Part T Y) → Meets t.pair.permits (EndsBy t.first) P o → ((x : X) → P x → Goes t Q (k x) (l x)) → SameOutcome t.pair o p → InStep t.pair (then_do o k) (then_do p l)
  same_then P Q (gives x m) (gives y n) k l meets h e =
      subst (λ z. InStep t.pair (k x m) (l z n)) e.0 ((h x meets.0).alike m n e.1 meets.1)
  same_then P Q (halts i s state out) (halts j u state' out') k l meets h e = inl e
  same_then P Q (gives x m) (halts j u state' out') k l meets h e = absurd e
  same_then P Q (halts i s state out) (gives y n) k l meets h e = absurd e

  pub in_step_then : {X Y : Type 0} (P : X → Type 0) (Q : Y → Type 0) (o : Outcome S X) (p : Outcome T X) (k : X → Part S Y) (l : X → Part T Y) → Meets t.pair.permits (EndsBy t.first) P o → Meets t.pair.permits (EndsBy t.second) P p → ((x : X) → P x → Goes t Q (k x) (l x)) → InStep t.pair o p → InStep t.pair (then_do o k) (then_do p l)
  in_step_then P Q o p k l meets meets' h = ⊎_elim
      (λ e. same_then P Q o p k l meets h e)
      (λ e. let a = t.pair.first_calls.ask e.request e.first in let b = t.pair.second_calls.ask e.request e.second in inr (record {
        request = e.request;
        permitted = e.permitted;
        first = e.first;
        second = e.second;
        state = e.state;
        output = e.output;
        second_output = e.second_output;
        outputs = e.outputs;
        related = e.related;
        parts_there = e.parts_there;
        first_then = reaches_then t.pair.permits t.pair.before t.pair.first_calls t.first t.order P Q (refusal_of a) (state_of a) e.state e.output o k meets (λ x m px held. (h x px).first m held) e.first_then;
        second_then = reaches_then t.pair.permits t.pair.before_second t.pair.second_calls t.second t.order P Q (refusal_of b) (state_of b) e.state e.second_output p l meets' (λ x m px held. (h x px).second m held) e.second_then;
      }))

  pub goes_bind : {X Y : Type 0} {P : X → Type 0} {Q : Y → Type 0} {p : Part S X} {q : Part T X} {k : X → Part S Y} {l : X → Part T Y} → Goes t P p q → ((x : X) → P x → Goes t Q (k x) (l x)) → Goes t Q (bind p k) (bind q l)
  goes_bind {P = P} {Q = Q} {p = p} {q = q} {k = k} {l = l} g h = record {
    first = λ m held. later_then t.pair.permits t.pair.before t.pair.first_calls t.first t.order P Q m (p m) k (g.first m held) (λ x n px held'. (h x px).first n held');
    second = λ m held. later_then t.pair.permits t.pair.before_second t.pair.second_calls t.second t.order P Q m (q m) l (g.second m held) (λ x n px held'. (h x px).second n held');
    alike = λ m n same held. in_step_then P Q (p m) (q n) k l (g.first m held).meets (g.second n (held_too t.pair m n same held)).meets h (g.alike m n same held);
  }

  -- parts that do at each moment what two others do
  pub goes_as : {X : Type 0} {P : X → Type 0} {p p' : Part S X} {q q' : Part T X} → ((m : Moment S) → p m ≡ p' m) → ((n : Moment T) → q n ≡ q' n) → Goes t P p q → Goes t P p' q'
  goes_as {P = P} {p = p} {q' = q'} e f g = record {
    first = λ m held. subst (λ o. FirstLater t P m o) (e m) (g.first m held);
    second = λ n held. subst (λ o. SecondLater t P n o) (f n) (g.second n held);
    alike = λ m n same held. subst (λ o. InStep t.pair o (q' n)) (e m) (subst (λ o. InStep t.pair (p m) o) (f n) (g.alike m n same held));
  }

  -- parts that go together, with less said of what they give
  pub goes_weak : {X : Type 0} (P Q : X → Type 0) {p : Part S X} {q : Part T X} → ((x : X) → P x → Q x) → Goes t P p q → Goes t Q p q
  goes_weak P Q {p = p} {q = q} h g = record {
    first = λ m held. let l = g.first m held in record { world = l.world; output = l.output; state = l.state; meets = meets_weak t.pair.permits P Q (EndsBy t.first) h (p m) l.meets };
    second = λ n held. let l = g.second n held in record { world = l.world; output = l.output; state = l.state; meets = meets_weak t.pair.permits P Q (EndsBy t.second) h (q n) l.meets };
    alike = g.alike;
  }

  -- a part that sees and changes only the record state, the parameters and the local arrays
  pub goes_nearby : {X : Type 0} (P : X → Type 0) (f : Near → X × Near) → ((e : Near) → Held t e.frame → P (f e).0 × Held t (f e).1.frame × t.order.keeps e.state (f e).1.state) → Goes t P (λ m. nearby (f (near m)) m) (λ n. nearby (f (near n)) n)
  goes_nearby P f h = record {
    first = λ m held. let k = h (near m) held in later_nearby t.pair.permits t.pair.before t.pair.first_calls t.first t.order P (f (near m)) m k.0 k.1 k.2;
    second = λ n held. let k = h (near n) held in later_nearby t.pair.permits t.pair.before_second t.pair.second_calls t.second t.order P (f (near n)) n k.0 k.1 k.2;
    alike = λ m n same held. nearby_alike t.pair (f (near m)) (f (near n)) m n (ap f (near_alike t.pair m n same)) same;
  }

  pub goes_give : {X : Type 0} (P : X → Type 0) (x : X) → P x → Goes t P (give x) (give x)
  goes_give P x h = goes_nearby P (λ e. (x, e)) (λ e held. (h, held, t.order.here e.state))

  pub goes_plain : {X : Type 0} (x : X) → Goes t Any (give x) (give x)
  goes_plain x = goes_give Any x tt

  pub goes_halt : {X : Type 0} (P : X → Type 0) (h : Halt) → EndsBy t.first h → EndsBy t.second h → Goes t P (halt_with h) (halt_with h)
  goes_halt P h end end' = record {
    first = λ m held. later_halt t.pair.permits t.pair.before t.pair.first_calls t.first t.order P h end m;
    second = λ n held. later_halt t.pair.permits t.pair.before_second t.pair.second_calls t.second t.order P h end' n;
    alike = λ m n same held. inl (refl, same.worlds, same.states, same.outputs);
  }

  pub goes_fault : {X : Type 0} (P : X → Type 0) (f : Fault) → Goes t P (halt_with (halt.fault f)) (halt_with (halt.fault f))
  goes_fault P f = goes_halt P (halt.fault f) (t.first.at_fault f) (t.second.at_fault f)

  pub goes_settle : {X : Type 0} (r : Result X Fault) → Goes t Any (settle r) (settle r)
  goes_settle (Ok x) = goes_plain x
  goes_settle (Err f) = goes_fault Any f

  pub goes_tick : Goes t Any tick tick
  goes_tick = record {
    first = λ m held. later_tick t.pair.permits t.pair.before t.pair.first_calls t.first t.order m.left m held;
    second = λ n held. later_tick t.pair.permits t.pair.before_second t.pair.second_calls t.second t.order n.left n held;
    alike = λ m n same held. subst (λ k. InStep t.pair (tick_at m.left m) (tick_at k n)) same.lefts (tick_alike t.pair m.left m n same);
  }

  -- a part that depends on the parameters, on the record state, or on the steps that are left
  pub goes_framed : {X : Type 0} (P : X → Type 0) (k : List Hold → Part S X) (l : List Hold → Part T X) → ((frame : List Hold) → Held t frame → Goes t P (k frame) (l frame)) → Goes t P (λ m. k m.frame m) (λ n. l n.frame n)
  goes_framed P k l h = record {
    first = λ m held. (h m.frame held).first m held;
    second = λ n held. (h n.frame held).second n held;
    alike = λ m n same held. subst (λ f. InStep t.pair (k m.frame m) (l f n)) same.frames ((h m.frame held).alike m n same held);
  }

  pub goes_stated : {X : Type 0} (P : X → Type 0) (k : RecordState → Part S X) (l : RecordState → Part T X) → ((state : RecordState) → Goes t P (k state) (l state)) → Goes t P (λ m. k m.state m) (λ n. l n.state n)
  goes_stated P k l h = record {
    first = λ m held. (h m.state).first m held;
    second = λ n held. (h n.state).second n held;
    alike = λ m n same held. subst (λ f. InStep t.pair (k m.state m) (l f n)) same.states ((h m.state).alike m n same held);
  }

  pub goes_left : {X : Type 0} (P : X → Type 0) (k : ℕ → Part S X) (l : ℕ → Part T X) → ((left : ℕ) → Goes t P (k left) (l left)) → Goes t P (λ m. k m.left m) (λ n. l n.left n)
  goes_left P k l h = record {
    first = λ m held. (h m.left).first m held;
    second = λ n held. (h n.left).second n held;
    alike = λ m n same held. subst (λ f. InStep t.pair (k m.left m) (l f n)) same.lefts ((h m.left).alike m n same held);
  }

  -- a part that depends on a scalar at which it may look
  pub goes_looked : {X : Type 0} (P : X → Type 0) (slot : ℕ) (k : Val → Part S X) (l : Val → Part T X) → t.pair.permits looks (variable_slot slot) → ((v : Val) → Goes t P (k v) (l v)) → Goes t P (λ m. k (t.pair.first_calls.look slot m.world) m) (λ n. l (t.pair.second_calls.look slot n.world) n)
  goes_looked P slot k l may h = record {
    first = λ m held. (h (t.pair.first_calls.look slot m.world)).first m held;
    second = λ n held. (h (t.pair.second_calls.look slot n.world)).second n held;
    alike = λ m n same held. let v = t.pair.first_calls.look slot m.world in subst (λ u. InStep t.pair (k v m) (l u n)) (t.lockstep.look slot may m.world n.world same.worlds) ((h v).alike m n same held);
  }

  -- the same of a scalar's text
  pub goes_spelled : {X : Type 0} (P : X → Type 0) (slot : ℕ) (k : List ℕ → Part S X) (l : List ℕ → Part T X) → t.pair.permits looks (variable_slot slot) → ((s : List ℕ) → Goes t P (k s) (l s)) → Goes t P (λ m. k (text_at t.pair.first_calls slot m) m) (λ n. l (text_at t.pair.second_calls slot n) n)
  goes_spelled P slot k l may h = goes_looked P slot (λ v. k (text_of v)) (λ v. l (text_of v)) may (λ v. h (text_of v))

  -- a request to the world
  pub goes_ask : (q : Request) → t.pair.permits (access_of q) (resource_of q) → Goes t Any (λ m. ask (t.pair.first_calls.ask q m.world) m) (λ n. ask (t.pair.second_calls.ask q n.world) n)
  goes_ask q may = record {
    first = λ m held. later_ask t.pair.permits t.pair.before t.pair.first_calls t.first t.order (t.pair.first_calls.ask q m.world) m (t.first.ask q may m.world) (t.first.refuses q may m.world) held;
    second = λ n held. later_ask t.pair.permits t.pair.before_second t.pair.second_calls t.second t.order (t.pair.second_calls.ask q n.world) n (t.second.ask q may n.world) (t.second.refuses q may n.world) held;
    alike = λ m n same held. ⊎_elim
        (λ e. inl (same_ask t.pair (t.pair.first_calls.ask q m.world) (t.pair.second_calls.ask q n.world) m n same e))
        (λ e. inr (record {
          request = q;
          permitted = may;
          first = m.world;
          second = n.world;
          state = m.state;
          output = m.output;
          second_output = n.output;
          outputs = same.outputs;
          related = same.worlds;
          parts_there = e;
          first_then = reaches_ask t.pair.permits t.pair.before t.pair.first_calls t.first t.order (t.pair.first_calls.ask q m.world) m m.state m.output refl refl;
          second_then = reaches_ask t.pair.permits t.pair.before_second t.pair.second_calls t.second t.order (t.pair.second_calls.ask q n.world) n m.state n.output same.states refl;
        }))
        (t.lockstep.ask q may m.world n.world same.worlds);
  }

  pub goes_as_number : {p : Part S Val} {q : Part T Val} → Goes t Any p q → Goes t Any (as_number p) (as_number q)
  goes_as_number g = goes_bind g (λ v _. goes_plain (num_of v))

  pub goes_as_truth : {p : Part S Val} {q : Part T Val} → Goes t Any p q → Goes t Any (as_truth p) (as_truth q)
  goes_as_truth g = goes_bind g (λ v _. goes_plain (truth_of v))

  pub goes_as_text : (s : List ℕ) {p : Part S Val} {q : Part T Val} → Goes t Any p q → Goes t Any (as_text s p) (as_text s q)
  goes_as_text s g = goes_bind g (λ v _. goes_plain (s ++ text_of v))

  pub goes_dropped : {X : Type 0} {p : Part S X} {q : Part T X} → Goes t Any p q → Goes t Any (bind p (λ _. give (tt {0}))) (bind q (λ _. give (tt {0})))
  goes_dropped g = goes_bind g (λ _ _. goes_plain (tt {0}))

  pub goes_if : {X : Type 0} {P : X → Type 0} (b : Bool) {p p' : Part S X} {q q' : Part T X} → Goes t P p q → Goes t P p' q' → Goes t P (if b then p else p') (if b then q else q')
  goes_if true g h = g
  goes_if false g h = h

  pub goes_decide : {X : Type 0} {P : X → Type 0} {p : Part S (Result Bool Fault)} {q : Part T (Result Bool Fault)} {k : Bool → Part S X} {l : Bool → Part T X} → Goes t Any p q → ((b : Bool) → Goes t P (k b) (l b)) → Goes t P (decide p k) (decide q l)
  goes_decide g h = goes_bind g (λ r _. goes_bind (goes_settle r) (λ b _. h b))

  -- the record, or a fault
  pub goes_with_record : (r : Result Record Fault) → Goes t Any (with_record r) (with_record r)
  goes_with_record (Ok r) = goes_nearby Any (λ e. (tt {0}, record e { state = record e.state { line = r } })) (λ e held. (tt, held, t.order.line e.state r))
  goes_with_record (Err f) = goes_fault Any f

-- A run over a shard, piece by piece.
use Rattle.std.proofs.Common.{◌≡◌, ◌∙◌, ℕ, ◌+◌, List, [], ◌∷◌, ◌++◌, length, Option, refl, ap, sym, subst, append_assoc, append-nil, length-append, add_assoc, add-zero, arith}
use Rattle.std.proofs.KnownBytes.{Appends-nil, Appends-trans}
use Rattle.sha2.specs.Hashers.{Holds256}
use Rattle.sha2.specs.declared.Sha256.{Sha256}
use Rattle.pawk_input.specs.Input.{Item}
use Rattle.pawk_tables.specs.Layout.{Section, kept}
use Rattle.pawk_merge_law.specs.Phases.{Phase}
use Rattle.pawk_merge_law.specs.ChunkedRuns.{all_of}
use Rattle.pawk_shards.specs.Numbers.{AreSameButNumbers}
use Rattle.pawk_shards.specs.Told.{Tell}
use Rattle.pawk_map.specs.Sections.{DoesNotGoThrough, EndsKept, name_after}
use Rattle.pawk_map.specs.Maps.{Writes, Goes, Ground, Tells, Adds, held_items}
use Rattle.pawk_map.specs.declared.draft.Course.{Course}
use Rattle.pawk_map.specs.declared.draft.Course.TheVariants.{On, Over}
use Rattle.pawk_map.specs.declared.draft.Draft.{Draft}
use Rattle.pawk_map.specs.declared.draft.Progress.{Progress}
use Rattle.pawk_map.proofs.TellLemmas.{same_refl, same_append, same_then, say_none, say_append, name_append, all_append, tell_append}

-- ---- what was written

pub writes_none : (taken : Option (List ℕ)) (d : Sha256) → Writes taken taken d d []
writes_none taken d = record { appends = Appends-nil taken; holds = λ m h. subst (Holds256 d) (sym (append-nil m)) h }

pub writes_then : (a b c : Option (List ℕ)) (d e f : Sha256) (bytes more : List ℕ) → Writes a b d e bytes → Writes b c e f more → Writes a c d f (bytes ++ more)
writes_then a b c d e f bytes more h k = record {
  appends = Appends-trans a b c bytes more h.appends k.appends;
  holds = λ m held. subst (Holds256 f) (append_assoc m bytes more) (k.holds (m ++ bytes) (h.holds m held));
}

module _ (scalars arrays : ℕ) where
  pub goes_none : (taken : Option (List ℕ)) (s : Progress) → Goes scalars arrays taken taken s s [] 0
  goes_none taken s = record {
    bytes = [];
    say = say_none scalars arrays;
    wrote = writes_none taken s.digest;
    name = refl;
    counted = sym (add-zero s.records);
  }

  pub goes_then : (a b c : Option (List ℕ)) (s t u : Progress) (ss ts : List Section) (n m : ℕ) → Goes scalars arrays a b s t ss n → Goes scalars arrays b c t u ts m → Goes scalars arrays a c s u (ss ++ ts) (n + m)
  goes_then a b c s t u ss ts n m h k = record {
    bytes = h.bytes ++ k.bytes;
    say = say_append scalars arrays ss ts h.bytes k.bytes h.say k.say;
    wrote = writes_then a b c s.digest t.digest u.digest h.bytes k.bytes h.wrote k.wrote;
    name = k.name ∙ ap (λ v. name_after v ts) h.name ∙ sym (name_append s.name.items ss ts);
    counted = k.counted ∙ ap (λ v. v + m) h.counted ∙ add_assoc s.records n m;
  }

-- ---- what is told

-- What is kept last is so after other sections.
pub ends_after : (p : Phase) (nr : ℕ) (ss ts : List Section) (cs ds : List (List Item)) → EndsKept p (nr + length (all_of cs)) ts ds → EndsKept p nr (ss ++ ts) (cs ++ ds)
ends_after p nr ss ts cs ds h =
    let l = ap length (all_append cs h.first) ∙ length-append (all_of cs) (all_of h.first) in
    let e : nr + length (all_of cs) + length (all_of h.first) ≡ nr + length (all_of (cs ++ h.first)) = omega (arith, l) in
    record {
      front = ss ++ h.front;
      fnr = h.fnr;
      bytes = h.bytes;
      is = ap (λ x. ss ++ x) h.is ∙ sym (append_assoc ss h.front (kept h.fnr h.bytes ∷ []));
      first = cs ++ h.first;
      last = h.last;
      are = ap (λ x. cs ++ x) h.are ∙ sym (append_assoc cs h.first (h.last ∷ []));
      stops = subst (λ n. DoesNotGoThrough p n h.last) e h.stops;
    }

module _ (u : Ground) where
  pub tells_none : (taken : Option (List ℕ)) (s : Progress) → Tells u taken taken s [] On s
  tells_none taken s = record {
    sections = [];
    chunks = [];
    goes = goes_none u.scalars u.arrays taken s;
    tell = tt;
    are = tt;
    stops = λ over. absurd cc;
  }

  pub tells_then : (a b c : Option (List ℕ)) (s t w : Progress) (is js : List Item) (o : Course) → Tells u a b s is On t → Tells u b c t js o w → Tells u a c s (is ++ js) o w
  tells_then a b c s t w is js o h k =
      let n = length (all_of h.chunks) in
      let m = length (all_of k.chunks) in
      let all = all_append h.chunks k.chunks in
      let long : length (all_of (h.chunks ++ k.chunks)) ≡ n + m = ap length all ∙ length-append (all_of h.chunks) (all_of k.chunks) in
      let at : u.nr + t.records ≡ u.nr + s.records + n = ap (λ v. u.nr + v) h.goes.counted ∙ sym (add_assoc u.nr s.records n) in
      record {
        sections = h.sections ++ k.sections;
        chunks = h.chunks ++ k.chunks;
        goes = subst (λ v. Goes u.scalars u.arrays a c s w (h.sections ++ k.sections) v) (sym long)
            (goes_then u.scalars u.arrays a b c s t w h.sections k.sections n m h.goes k.goes);
        tell = tell_append u.phase u.rs (u.nr + s.records) s.name.items h.sections k.sections h.chunks k.chunks h.tell
            (subst (λ v. Tell u.phase u.rs (u.nr + s.records + n) v k.sections k.chunks) h.goes.name
            (subst (λ v. Tell u.phase u.rs v t.name.items k.sections k.chunks) at k.tell));
        are = subst (λ x. AreSameButNumbers x (is ++ js)) (sym all) (same_append (all_of h.chunks) is (all_of k.chunks) js h.are k.are);
        stops = λ over. ends_after u.phase (u.nr + s.records) h.sections k.sections h.chunks k.chunks
            (subst (λ v. EndsKept u.phase v k.sections k.chunks) at (k.stops over));
      }

  -- ---- what was added

  pub adds_none : (taken : Option (List ℕ)) (d : Draft) → Adds u taken taken d [] On d
  adds_none taken d = record {
    told = [];
    unread = [];
    tells = tells_none taken d.progress;
    are = same_refl (held_items u.rs d.held ++ []);
    on = λ on. refl;
    over = λ over. absurd cc;
  }

  -- Records are added, and then others.
  pub adds_then : (a b c : Option (List ℕ)) (d e f : Draft) (is js : List Item) (o : Course) → Adds u a b d is On e → Adds u b c e js o f → Adds u a c d (is ++ js) o f
  adds_then a b c d e f is js o h k =
      let held = held_items u.rs d.held in
      let mid = held_items u.rs e.held in
      let last = held_items u.rs f.held in
      let first : AreSameButNumbers (h.told ++ mid) (held ++ is) =
      subst (λ x. AreSameButNumbers (h.told ++ x) (held ++ is)) (ap (λ v. mid ++ v) (h.on refl) ∙ append-nil mid) h.are in
      let more : AreSameButNumbers (h.told ++ (k.told ++ (last ++ k.unread))) (h.told ++ (mid ++ js)) =
      same_append h.told h.told (k.told ++ (last ++ k.unread)) (mid ++ js) (same_refl h.told) k.are in
      let then : AreSameButNumbers (h.told ++ (mid ++ js)) (held ++ (is ++ js)) =
      subst (λ x. AreSameButNumbers x (held ++ (is ++ js))) (append_assoc h.told mid js)
      (subst (λ x. AreSameButNumbers ((h.told ++ mid) ++ js) x) (append_assoc held is js)
      (same_append (h.told ++ mid) (held ++ is) js js first (same_refl js))) in
      record {
        told = h.told ++ k.told;
        unread = k.unread;
        tells = tells_then a b c d.progress e.progress f.progress h.told k.told o h.tells k.tells;
        are = subst (λ x. AreSameButNumbers x (held ++ (is ++ js))) (sym (append_assoc h.told k.told (last ++ k.unread)))
            (same_then (h.told ++ (k.told ++ (last ++ k.unread))) (h.told ++ (mid ++ js)) (held ++ (is ++ js)) more then);
        on = k.on;
        over = k.over;
      }

  -- Where no more records are run, those that come are left unread.
  pub adds_over : (a b : Option (List ℕ)) (d e : Draft) (is js : List Item) → Adds u a b d is Over e → Adds u a b d (is ++ js) Over e
  adds_over a b d e is js h =
      let held = held_items u.rs d.held in
      let last = held_items u.rs e.held in
      record {
        told = h.told;
        unread = h.unread ++ js;
        tells = h.tells;
        are = subst (λ x. AreSameButNumbers (h.told ++ x) (held ++ (is ++ js))) (append_assoc last h.unread js)
            (subst (λ x. AreSameButNumbers x (held ++ (is ++ js))) (append_assoc h.told (last ++ h.unread) js)
            (subst (λ x. AreSameButNumbers ((h.told ++ (last ++ h.unread)) ++ js) x) (append_assoc held is js)
            (same_append (h.told ++ (last ++ h.unread)) (held ++ is) js js h.are (same_refl js))));
        on = λ on. absurd cc;
        over = h.over;
      }

  -- The records may be others, but for their numbers.
  pub adds_same : (a b : Option (List ℕ)) (d e : Draft) (is js : List Item) (o : Course) → AreSameButNumbers is js → Adds u a b d is o e → Adds u a b d js o e
  adds_same a b d e is js o same h =
      let held = held_items u.rs d.held in
      let all = h.told ++ (held_items u.rs e.held ++ h.unread) in
      record {
        told = h.told;
        unread = h.unread;
        tells = h.tells;
        are = same_then all (held ++ is) (held ++ js) h.are (same_append held held is js (same_refl held) same);
        on = h.on;
        over = h.over;
      }

-- The builder reads what an expression derives, and nothing else.
use Rattle.std.proofs.Common.{◌≡◌, ℕ, Option, Some, None, List, [], ◌∷◌, ◌++◌, refl, sym, ap, ◌∙◌, subst, append_assoc, append-nil}
use Rattle.pawk_ere_syntax.specs.declared.token.EreToken.{EreToken}
use Rattle.pawk_ere_syntax.specs.declared.token.EreToken.TheVariants.{Leaf, Times, Bar, Open, Close, Caret, Dollar}
use Rattle.pawk_ere_syntax.specs.Pattern.{Pattern, Empty, Start, End, Bytes, Group, Repeat, Sequence, Either, IsFit}
use Rattle.pawk_ere_syntax.specs.Grammar.{Level, Alt, Branch, Piece, Atom, Derives, tokens_of, IsSound, AreSound}
use Rattle.pawk_ere_syntax.specs.Machine.{Alternation, Builder, nothing, branch_with, or_else, whole, put, repeated_piece, after_times, after_bar, after_close, with_piece, step, if_outermost, then_run, run, start}

-- a builder with this alt
abbrev with_read : Builder → Alternation → Builder
with_read st f = record { here = f; outer = st.outer }

-- what reading the tokens of an expression leaves
abbrev Reads : Level → Pattern → Type 0
Reads Alt e = (outer : List Alternation) → (f : Alternation) × (whole f ≡ Some e) × ((rest : List EreToken) → run (tokens_of e ++ rest) (record { here = nothing; outer = outer }) ≡ run rest (record { here = f; outer = outer }))
Reads Branch e = (alternatives : Option Pattern) (outer : List Alternation) → (branch : Option Pattern) × (piece : Option Pattern) × (branch_with branch piece ≡ Some e)
    × ((rest : List EreToken) → run (tokens_of e ++ rest) (record { here = record { alternatives = alternatives; branch = None; piece = None }; outer = outer }) ≡ run rest (record { here = record { alternatives = alternatives; branch = branch; piece = piece }; outer = outer }))
Reads Piece e = (st : Builder) (rest : List EreToken) → run (tokens_of e ++ rest) st ≡ run rest (with_piece st e)
Reads Atom e = ((st : Builder) (rest : List EreToken) → run (tokens_of e ++ rest) st ≡ run rest (with_piece st e))
    × ((least : ℕ) (most : Option ℕ) → repeated_piece (Some e) least most ≡ Some (Repeat e least most))

-- a piece is a branch
branch_of : (e : Pattern) → Reads Piece e → Reads Branch e
branch_of e h alternatives outer = (None, Some e, refl, λ rest. h (record { here = record { alternatives = alternatives; branch = None; piece = None }; outer = outer }) rest)

-- a branch is an alt
alt_of : (e : Pattern) → Reads Branch e → Reads Alt e
alt_of e h outer =
    let x = h None outer in
    (record { alternatives = None; branch = x.0; piece = x.1 }, ap (or_else None) x.2, x.3)

piece_of : (e : Pattern) → Reads Atom e → Reads Piece e
piece_of e h = h.0

group_reads : (a : Pattern) → Reads Alt a → Reads Atom (Group a)
group_reads a h = (
  λ st rest.
      let x = h (st.here ∷ st.outer) in
      let e : run (Open ∷ ((tokens_of a ++ Close ∷ []) ++ rest)) st ≡ run (Open ∷ (tokens_of a ++ Close ∷ rest)) st = ap (λ ts. run (Open ∷ ts) st) (append_assoc (tokens_of a) (Close ∷ []) rest) in
      e ∙ x.2 (Close ∷ rest) ∙ ap (λ o. then_run (run rest) (after_close o (st.here ∷ st.outer))) x.1,
  λ least most. refl,
)

repeat_reads : (a : Pattern) (least : ℕ) (most : Option ℕ) → Reads Atom a → Reads Piece (Repeat a least most)
repeat_reads a least most h st rest =
    ap (λ ts. run ts st) (append_assoc (tokens_of a) (Times least most ∷ []) rest)
    ∙ h.0 st (Times least most ∷ rest)
    ∙ ap (λ o. then_run (run rest) (after_times (with_piece st a) o)) (h.1 least most)

sequence_reads : (a b : Pattern) → Reads Branch a → Reads Piece b → Reads Branch (Sequence a b)
sequence_reads a b h k alternatives outer =
    let x = h alternatives outer in (
      Some a,
      Some b,
      refl,
      λ rest.
          ap (λ ts. run ts (record { here = record { alternatives = alternatives; branch = None; piece = None }; outer = outer })) (append_assoc (tokens_of a) (tokens_of b) rest)
          ∙ x.3 (tokens_of b ++ rest)
          ∙ k (record { here = record { alternatives = alternatives; branch = x.0; piece = x.1 }; outer = outer }) rest
          ∙ ap (λ o. run rest (record { here = record { alternatives = alternatives; branch = o; piece = Some b }; outer = outer })) x.2,
    )

either_reads : (a b : Pattern) → Reads Alt a → Reads Branch b → Reads Alt (Either a b)
either_reads a b h k outer =
    let x = h outer in
    let y = k (Some a) outer in (
      record { alternatives = Some a; branch = y.0; piece = y.1 },
      ap (or_else (Some a)) y.2,
      λ rest.
          ap (λ ts. run ts (record { here = nothing; outer = outer })) (append_assoc (tokens_of a) (Bar ∷ tokens_of b) rest)
          ∙ x.2 (Bar ∷ (tokens_of b ++ rest))
          ∙ ap (λ o. then_run (run (tokens_of b ++ rest)) (after_bar (record { here = x.0; outer = outer }) o)) x.1
          ∙ y.3 rest,
    )

reads : (l : Level) (e : Pattern) → Derives l e → Reads l e
reads l Empty d = absurd d
reads Atom Start d = absurd d
reads Piece Start d = λ st rest. refl
reads Branch Start d = branch_of Start (λ st rest. refl)
reads Alt Start d = alt_of Start (branch_of Start (λ st rest. refl))
reads Atom End d = absurd d
reads Piece End d = λ st rest. refl
reads Branch End d = branch_of End (λ st rest. refl)
reads Alt End d = alt_of End (branch_of End (λ st rest. refl))
reads Atom (Bytes members) d = (λ st rest. refl, λ least most. refl)
reads Piece (Bytes members) d = λ st rest. refl
reads Branch (Bytes members) d = branch_of (Bytes members) (λ st rest. refl)
reads Alt (Bytes members) d = alt_of (Bytes members) (branch_of (Bytes members) (λ st rest. refl))
reads Atom (Group a) d = group_reads a (reads Alt a d)
reads Piece (Group a) d = piece_of (Group a) (group_reads a (reads Alt a d))
reads Branch (Group a) d = branch_of (Group a) (piece_of (Group a) (group_reads a (reads Alt a d)))
reads Alt (Group a) d = alt_of (Group a) (branch_of (Group a) (piece_of (Group a) (group_reads a (reads Alt a d))))
reads Atom (Repeat a least most) d = absurd d
reads Piece (Repeat a least most) d = repeat_reads a least most (reads Atom a d.0)
reads Branch (Repeat a least most) d = branch_of (Repeat a least most) (repeat_reads a least most (reads Atom a d.0))
reads Alt (Repeat a least most) d = alt_of (Repeat a least most) (branch_of (Repeat a least most) (repeat_reads a least most (reads Atom a d.0)))
reads Alt (Sequence a b) d = alt_of (Sequence a b) (sequence_reads a b (reads Branch a d.0) (reads Piece b d.1))
reads Branch (Sequence a b) d = sequence_reads a b (reads Branch a d.0) (reads Piece b d.1)
reads Piece (Sequence a b) d = absurd d
reads Atom (Sequence a b) d = absurd d
reads Alt (Either a b) d = either_reads a b (reads Alt a d.0) (reads Branch b d.1)
reads Branch (Either a b) d = absurd d
reads Piece (Either a b) d = absurd d
reads Atom (Either a b) d = absurd d

-- what an expression derives is read as it
pub run-tokens_of : (e : Pattern) → Derives Alt e → run (tokens_of e) start ≡ Some e
run-tokens_of e d =
    let x = reads Alt e d [] in
    ap (λ ts. run ts start) (sym (append-nil (tokens_of e))) ∙ x.2 [] ∙ x.1

-- what an optional part is, and its tokens
abbrev IfThere : (Pattern → Type 0) → Option Pattern → Type 0
IfThere P None = Unit {0}
IfThere P (Some e) = P e

abbrev text : Option Pattern → List EreToken
text None = []
text (Some e) = tokens_of e

abbrev text_before : Option Pattern → List EreToken
text_before None = []
text_before (Some e) = tokens_of e ++ Bar ∷ []

record IsWellFormed (f : Alternation) : Type 0 where
  alternatives : IfThere (Derives Alt) f.alternatives
  branch : IfThere (Derives Branch) f.branch
  piece : IfThere (Derives Piece) f.piece

abbrev AreWellFormed : List Alternation → Type 0
AreWellFormed [] = Unit {0}
AreWellFormed (f ∷ fs) = IsWellFormed f × AreWellFormed fs

abbrev text_of : Alternation → List EreToken
text_of f = text_before f.alternatives ++ (text f.branch ++ text f.piece)

abbrev outer_text : List Alternation → List EreToken
outer_text [] = []
outer_text (f ∷ fs) = outer_text fs ++ (text_of f ++ Open ∷ [])

abbrev all_text : Builder → List EreToken
all_text st = outer_text st.outer ++ text_of st.here

pub some_inj : {A : Type 0} (x y : A) → Some x ≡ Some y → x ≡ y
some_inj x y h = cc

branch_from : (e : Pattern) → Derives Piece e → Derives Branch e
branch_from Empty d = d
branch_from Start d = d
branch_from End d = d
branch_from (Bytes members) d = d
branch_from (Group a) d = d
branch_from (Repeat a least most) d = d
branch_from (Sequence a b) d = absurd d
branch_from (Either a b) d = absurd d

alt_from : (e : Pattern) → Derives Branch e → Derives Alt e
alt_from Empty d = d
alt_from Start d = d
alt_from End d = d
alt_from (Bytes members) d = d
alt_from (Group a) d = d
alt_from (Repeat a least most) d = d
alt_from (Sequence a b) d = d
alt_from (Either a b) d = absurd d

branch_with_text : (b p : Option Pattern) → text (branch_with b p) ≡ text b ++ text p
branch_with_text b None = sym (append-nil (text b))
branch_with_text None (Some p) = refl
branch_with_text (Some b) (Some p) = refl

branch_with_is : (b p : Option Pattern) → IfThere (Derives Branch) b → IfThere (Derives Piece) p → IfThere (Derives Branch) (branch_with b p)
branch_with_is b None db dp = db
branch_with_is None (Some p) db dp = branch_from p dp
branch_with_is (Some b) (Some p) db dp = (db, dp)

whole_text : (a b : Option Pattern) (e : Pattern) → or_else a b ≡ Some e → text_before a ++ text b ≡ tokens_of e
whole_text a None e h = cc
whole_text None (Some b) e h = ap tokens_of (some_inj b e h)
whole_text (Some a) (Some b) e h = append_assoc (tokens_of a) (Bar ∷ []) (tokens_of b) ∙ ap tokens_of (some_inj (Either a b) e h)

whole_derives : (a b : Option Pattern) (e : Pattern) → IfThere (Derives Alt) a → IfThere (Derives Branch) b → or_else a b ≡ Some e → Derives Alt e
whole_derives a None e da db h = cc
whole_derives None (Some b) e da db h = subst (Derives Alt) (some_inj b e h) (alt_from b db)
whole_derives (Some a) (Some b) e da db h = subst (Derives Alt) (some_inj (Either a b) e h) (da, db)

whole_is : (f : Alternation) (e : Pattern) → IsWellFormed f → whole f ≡ Some e → Derives Alt e × (text_of f ≡ tokens_of e)
whole_is f e r h = (
  whole_derives f.alternatives (branch_with f.branch f.piece) e r.alternatives (branch_with_is f.branch f.piece r.branch r.piece) h,
  ap (λ ts. text_before f.alternatives ++ ts) (sym (branch_with_text f.branch f.piece)) ∙ whole_text f.alternatives (branch_with f.branch f.piece) e h,
)

put_is : (f : Alternation) (p : Pattern) → IsWellFormed f → Derives Piece p → IsWellFormed (put f p)
put_is f p r d = record { alternatives = r.alternatives; branch = branch_with_is f.branch f.piece r.branch r.piece; piece = d }

put_text : (f : Alternation) (p : Pattern) → text_of (put f p) ≡ text_of f ++ tokens_of p
put_text f p =
    ap (λ ts. text_before f.alternatives ++ (ts ++ tokens_of p)) (branch_with_text f.branch f.piece)
    ∙ sym (append_assoc (text_before f.alternatives) (text f.branch ++ text f.piece) (tokens_of p))

record Goes (t : EreToken) (old new : Builder) : Type 0 where
  here : IsWellFormed new.here
  outer : AreWellFormed new.outer
  text : all_text new ≡ all_text old ++ t ∷ []

piece_goes : (t : EreToken) (p : Pattern) (st : Builder) → Derives Piece p → tokens_of p ≡ t ∷ [] → IsWellFormed st.here → AreWellFormed st.outer → Goes t st (with_piece st p)
piece_goes t p st d w r rs = record {
  here = put_is st.here p r d;
  outer = rs;
  text = ap (λ ts. outer_text st.outer ++ ts) (put_text st.here p ∙ ap (λ ts. text_of st.here ++ ts) w) ∙ sym (append_assoc (outer_text st.outer) (text_of st.here) (t ∷ []));
}

times_goes : (least : ℕ) (most : Option ℕ) → IsFit least most → (f : Alternation) (outer : List Alternation) → (new : Builder) → IsWellFormed f → AreWellFormed outer → after_times (record { here = f; outer = outer }) (repeated_piece f.piece least most) ≡ Some new → Goes (Times least most) (record { here = f; outer = outer }) new
times_goes least most fit f outer new r rs h = go f.piece refl r.piece h
  where
    done : (a : Pattern) → Derives Atom a → f.piece ≡ Some a → Goes (Times least most) (record { here = f; outer = outer }) (record { here = record { alternatives = f.alternatives; branch = f.branch; piece = Some (Repeat a least most) }; outer = outer })
    done a d is = record {
      here = record { alternatives = r.alternatives; branch = r.branch; piece = (d, fit) };
      outer = rs;
      text =
          ap (λ ts. outer_text outer ++ (text_before f.alternatives ++ ts)) (sym (append_assoc (text f.branch) (tokens_of a) (Times least most ∷ [])))
          ∙ ap (λ ts. outer_text outer ++ ts) (sym (append_assoc (text_before f.alternatives) (text f.branch ++ tokens_of a) (Times least most ∷ [])))
          ∙ sym (append_assoc (outer_text outer) (text_before f.alternatives ++ (text f.branch ++ tokens_of a)) (Times least most ∷ []))
          ∙ ap (λ o. (outer_text outer ++ (text_before f.alternatives ++ (text f.branch ++ text o))) ++ Times least most ∷ []) (sym is);
    }

    go : (p : Option Pattern) → f.piece ≡ p → IfThere (Derives Piece) p → after_times (record { here = f; outer = outer }) (repeated_piece p least most) ≡ Some new → Goes (Times least most) (record { here = f; outer = outer }) new
    go None is d e = cc
    go (Some Empty) is d e = cc
    go (Some Start) is d e = cc
    go (Some End) is d e = cc
    go (Some (Bytes members)) is d e = subst (Goes (Times least most) (record { here = f; outer = outer })) (some_inj _ _ e) (done (Bytes members) d is)
    go (Some (Group a)) is d e = subst (Goes (Times least most) (record { here = f; outer = outer })) (some_inj _ _ e) (done (Group a) d is)
    go (Some (Repeat a l m)) is d e = cc
    go (Some (Sequence a b)) is d e = cc
    go (Some (Either a b)) is d e = cc

bar_goes : (st new : Builder) → IsWellFormed st.here → AreWellFormed st.outer → (a : Option Pattern) → whole st.here ≡ a → after_bar st a ≡ Some new → Goes Bar st new
bar_goes st new r rs None is h = cc
bar_goes st new r rs (Some a) is h =
    let x = whole_is st.here a r is in
    subst (Goes Bar st) (some_inj _ _ h) (record {
      here = record { alternatives = x.0; branch = tt; piece = tt };
      outer = rs;
      text =
          ap (λ ts. outer_text st.outer ++ ts) (append-nil (tokens_of a ++ Bar ∷ []) ∙ ap (λ ts. ts ++ Bar ∷ []) (sym x.1))
          ∙ sym (append_assoc (outer_text st.outer) (text_of st.here) (Bar ∷ []));
    })

close_goes : (f : Alternation) (outer : List Alternation) (new : Builder) → IsWellFormed f → AreWellFormed outer → (a : Option Pattern) → whole f ≡ a → after_close a outer ≡ Some new → Goes Close (record { here = f; outer = outer }) new
close_goes f outer new r rs None is h = cc
close_goes f [] new r rs (Some a) is h = cc
close_goes f (g ∷ gs) new r rs (Some a) is h =
    let x = whole_is f a r is in
    subst (Goes Close (record { here = f; outer = g ∷ gs })) (some_inj _ _ h) (record {
      here = put_is g (Group a) rs.0 x.0;
      outer = rs.1;
      text =
          ap (λ ts. outer_text gs ++ ts) (put_text g (Group a))
          ∙ ap (λ ts. outer_text gs ++ (text_of g ++ (Open ∷ (ts ++ Close ∷ [])))) (sym x.1)
          ∙ ap (λ ts. outer_text gs ++ ts) (sym (append_assoc (text_of g) (Open ∷ []) (text_of f ++ Close ∷ [])))
          ∙ sym (append_assoc (outer_text gs) (text_of g ++ Open ∷ []) (text_of f ++ Close ∷ []))
          ∙ sym (append_assoc (outer_text gs ++ (text_of g ++ Open ∷ [])) (text_of f) (Close ∷ []));
    })

step_goes : (t : EreToken) (st new : Builder) → IsSound t → IsWellFormed st.here → AreWellFormed st.outer → step t st ≡ Some new → Goes t st new
step_goes (Leaf set) st new ok r rs h = subst (Goes (Leaf set) st) (some_inj _ _ h) (piece_goes (Leaf set) (Bytes set.members) st tt refl r rs)
step_goes Caret st new ok r rs h = subst (Goes Caret st) (some_inj _ _ h) (piece_goes Caret Start st tt refl r rs)
step_goes Dollar st new ok r rs h = subst (Goes Dollar st) (some_inj _ _ h) (piece_goes Dollar End st tt refl r rs)
step_goes (Times least most) st new ok r rs h = times_goes least most ok st.here st.outer new r rs h
step_goes Bar st new ok r rs h = bar_goes st new r rs (whole st.here) refl h
step_goes Open st new ok r rs h = subst (Goes Open st) (some_inj _ _ h) (record {
  here = record { alternatives = tt; branch = tt; piece = tt };
  outer = (r, rs);
  text = append-nil (outer_text st.outer ++ (text_of st.here ++ Open ∷ [])) ∙ sym (append_assoc (outer_text st.outer) (text_of st.here) (Open ∷ []));
})
step_goes Close st new ok r rs h = close_goes st.here st.outer new r rs (whole st.here) refl h

run_is : (ts : List EreToken) (st : Builder) (e : Pattern) → AreSound ts → IsWellFormed st.here → AreWellFormed st.outer → run ts st ≡ Some e → Derives Alt e × (all_text st ++ ts ≡ tokens_of e)
run_is [] st e ok r rs h = go st.outer refl h
  where
    go : (outer : List Alternation) → st.outer ≡ outer → if_outermost outer (whole st.here) ≡ Some e → Derives Alt e × (all_text st ++ [] ≡ tokens_of e)
    go [] is f = let x = whole_is st.here e r f in (x.0, append-nil (all_text st) ∙ ap (λ o. outer_text o ++ text_of st.here) is ∙ x.1)
    go (g ∷ gs) is f = cc
run_is (t ∷ ts) st e ok r rs h = go (step t st) refl h (λ new. run_is ts new e ok.1)
  where
    go : (new : Option Builder) → step t st ≡ new → then_run (run ts) new ≡ Some e → ((new : Builder) → IsWellFormed new.here → AreWellFormed new.outer → run ts new ≡ Some e → Derives Alt e × (all_text new ++ ts ≡ tokens_of e)) → Derives Alt e × (all_text st ++ (t ∷ ts) ≡ tokens_of e)
    go None is f ih = cc
    go (Some new) is f ih =
        let g = step_goes t st new ok.0 r rs is in
        let x = ih new g.here g.outer f in
        (x.0, sym (append_assoc (all_text st) (t ∷ []) ts) ∙ ap (λ u. u ++ ts) (sym g.text) ∙ x.1)

-- what is read as an expression is what it derives
pub run-is_tokens_of : (ts : List EreToken) (e : Pattern) → AreSound ts → run ts start ≡ Some e → Derives Alt e × (ts ≡ tokens_of e)
run-is_tokens_of ts e ok h = run_is ts start e ok (record { alternatives = tt; branch = tt; piece = tt }) tt h

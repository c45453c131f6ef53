-- The code of a body: it fits, it spells the body, and it is the only one.
use Rattle.std.proofs.Common.{◌≡◌, ℕ, true, false, ◌||◌, Option, Some, None, refl, sym, ap, ap₂, ◌∙◌, IfSome}
use Rattle.std.specs.Prelude.{is_some, unwrap_or}
use Rattle.std.specs.Option.{option_map}
use Rattle.pawk_lex.specs.Bytes.{Text}
use Rattle.pawk_value.specs.declared.arithmetic.Op.TheVariants as op
use Rattle.pawk_syntax_tree.specs.Tree.{Tree, Trees, unary, binary}
use Rattle.pawk_syntax_tree.specs.Tree as tree
use Rattle.pawk_syntax_tree.specs.declared.statement.Jump.TheVariants as word
use Rattle.pawk_syntax_tree.specs.Statement.{Stmt as TreeStmt, Stmts as TreeStmts}
use Rattle.pawk_syntax_tree.specs.Statement as stmt
use Rattle.pawk_code.specs.declared.name.Variable.{Variable}
use Rattle.pawk_code.specs.declared.name.Variable.TheVariants as variable
use Rattle.pawk_code.specs.declared.word.Sign.TheVariants as sign
use Rattle.pawk_code.specs.declared.word.Step.TheVariants as by
use Rattle.pawk_code.specs.Expressions.{Expr, numeric, assign, change, step}
use Rattle.pawk_code.specs.Statements.{Simple, drop, set, add, count, print, printf, delete, clear, Leave, break, continue, next_record, next_file, exit, return, Head, Stmt, simple, leave, when, choose, repeat, do_while, loop, walk, Stmts, done, next}
use Rattle.pawk_resolve.specs.Slots.{place, slot}
use Rattle.pawk_resolve.specs.Scopes.{Scope, is_array, special_of, variable_at, variable_of}
use Rattle.pawk_resolve.specs.Resolved.{resolved}
use Rattle.pawk_resolve.specs.ResolvedStatements.{dropped, print_of, printf_by, simple_of, head_of, resolved_statement, resolved_body}
use Rattle.pawk_resolve_law.specs.Names.{name_at, variable_name, AreTables}
use Rattle.pawk_resolve_law.specs.Spelled.{spelled}
use Rattle.pawk_resolve_law.specs.SpelledStatements.{spelled_effect, spelled_simple, spelled_leave, spelled_statement, spelled_body}
use Rattle.pawk_resolve_law.specs.Fits.{Fits}
use Rattle.pawk_resolve_law.specs.FitsStatements.{MayBeDropped, FitsVariable, FitsEffect, FitsSimple, FitsLeave, FitsHead, FitsStatement, FitsBody}
use Rattle.pawk_resolve_law.specs.Proper.{IsScalar, IsProper}
use Rattle.pawk_resolve_law.specs.ProperStatements.{IsProperStatement, IsProperBody}
use Rattle.pawk_resolve_law.proofs.Lookups.{place_name}
use Rattle.pawk_resolve_law.proofs.Normal.{fits, fits_all, array_fits, format_fits}
use Rattle.pawk_resolve_law.proofs.Spelling.{spells, spells_all, array_back, format_back}
use Rattle.pawk_resolve_law.proofs.Again.{again, again_all, again_place, again_format, array_again, local_is, slot_is}

-- ---- options

if_some : {A D : Type 0} (P : A → Type 0) (Q : D → Type 0) (f : A → D) → ((a : A) → P a → Q (f a)) → (o : Option A) → IfSome o P → IfSome (option_map f o) Q
if_some P Q f k None h = tt
if_some P Q f k (Some a) h = k a h

there_and_back : {A D : Type 0} (P : A → Type 0) (f : A → D) (g : D → A) → ((a : A) → P a → g (f a) ≡ a) → (o : Option A) → IfSome o P → option_map g (option_map f o) ≡ o
there_and_back P f g k None h = refl
there_and_back P f g k (Some a) h = ap Some (k a h)

-- ---- values that are dropped

drop_fits : (s : Scope) (e : Expr) → Fits s e → FitsEffect s (dropped e)
drop_fits s (assign p e) h = h
drop_fits s (numeric (change op.Add p e)) h = h
drop_fits s (numeric (change op.Subtract p e)) h = h
drop_fits s (numeric (step o p)) h = h
drop_fits s _ h = (tt, h)

-- a statement that is an expression is a simple one
effect_fits : (s : Scope) (x : Simple) → FitsEffect s x → FitsSimple s x
effect_fits s (drop e) h = h
effect_fits s (set p e) h = h
effect_fits s (add o p e) h = h
effect_fits s (count o p) h = h
effect_fits s _ h = absurd h

drop_back : (s : Scope) (e : Expr) → spelled_effect s (dropped e) ≡ spelled s e
drop_back s (assign p e) = refl
drop_back s (numeric (change op.Add p e)) = refl
drop_back s (numeric (change op.Subtract p e)) = refl
drop_back s (numeric (step o p)) = refl
drop_back s _ = refl

effect_spelled : (s : Scope) (x : Simple) → FitsEffect s x → spelled_simple s x ≡ stmt.eval (spelled_effect s x)
effect_spelled s (drop e) h = refl
effect_spelled s (set p e) h = refl
effect_spelled s (add o p e) h = refl
effect_spelled s (count o p) h = refl
effect_spelled s _ h = absurd h

effect_back : (s : Scope) (t : Tree) → IsProper s t → spelled_effect s (simple_of s t) ≡ t
effect_back s t h = drop_back s (resolved s t) ∙ spells s t h

simple_back : (s : Scope) (t : Tree) → IsProper s t → spelled_simple s (simple_of s t) ≡ stmt.eval t
simple_back s t h = effect_spelled s (dropped (resolved s t)) (drop_fits s (resolved s t) (fits s t h)) ∙ ap stmt.eval (effect_back s t h)

drop_is : (e : Expr) → MayBeDropped e → dropped e ≡ drop e
drop_is (assign p e) h = absurd h
drop_is (numeric (change op.Add p e)) h = absurd h
drop_is (numeric (change op.Subtract p e)) h = absurd h
drop_is (numeric (step o p)) h = absurd h
drop_is _ h = refl

effect_again : (s : Scope) → AreTables s → (x : Simple) → FitsEffect s x → simple_of s (spelled_effect s x) ≡ x
effect_again s t (drop e) h = ap dropped (again s t e h.1) ∙ drop_is e h.0
effect_again s t (set p e) h = ap₂ (λ q d. set q d) (again_place s t p h.0) (again s t e h.1)
effect_again s t (add sign.Plus p e) h = ap₂ (λ q d. add sign.Plus q d) (again_place s t p h.0) (again s t e h.1)
effect_again s t (add sign.Minus p e) h = ap₂ (λ q d. add sign.Minus q d) (again_place s t p h.0) (again s t e h.1)
effect_again s t (count by.IncrementBefore p) h = ap (count by.IncrementBefore) (again_place s t p h)
effect_again s t (count by.DecrementBefore p) h = ap (count by.DecrementBefore) (again_place s t p h)
effect_again s t (count by.IncrementAfter p) h = ap (count by.IncrementAfter) (again_place s t p h)
effect_again s t (count by.DecrementAfter p) h = ap (count by.DecrementAfter) (again_place s t p h)
effect_again s t _ h = absurd h

-- ---- the variable of a loop

variable_fits_at : (s : Scope) (x : Text) (o q : Option ℕ) → place s.parameters x ≡ o → place s.globals.scalars x ≡ q → is_array s x ≡ false →
    (is_some o || is_some q) ≡ true → FitsVariable s (variable_at o (unwrap_or q 0)) × (variable_name s (variable_at o (unwrap_or q 0)) ≡ x)
variable_fits_at s x (Some i) q e f k h =
    let at = place_name s.parameters x i e in
    ((at.0, ap (is_array s) at.1 ∙ k), at.1)
variable_fits_at s x None (Some n) e f k h =
    let at = place_name s.globals.scalars x n f in
    ((at.0, ap (place s.parameters) at.1 ∙ e, ap (is_array s) at.1 ∙ k), at.1)
variable_fits_at s x None None e f k h = let no : false ≡ true = h in cc

variable_fits : (s : Scope) (x : Text) → special_of x ≡ None → IsScalar s x → FitsVariable s (variable_of s x) × (variable_name s (variable_of s x) ≡ x)
variable_fits s x free h =
    let there : (is_some (place s.parameters x) || is_some (place s.globals.scalars x)) ≡ true = rw free at h.1 in
    variable_fits_at s x (place s.parameters x) (place s.globals.scalars x) refl refl h.0 there

variable_again : (s : Scope) → AreTables s → (k : Variable) → FitsVariable s k → variable_of s (variable_name s k) ≡ k
variable_again s t (variable.Global n) h =
    ap (λ o. variable_at o (slot s.globals.scalars (name_at s.globals.scalars n))) h.1 ∙ ap variable.Global (slot_is s t n h)
variable_again s t (variable.Local n) h = ap (λ o. variable_at o (slot s.globals.scalars (name_at s.parameters n))) (local_is s t n h)

-- ---- bodies

module _ (s : Scope) where
  effect_of : (t : Tree) → IsProper s t → FitsEffect s (simple_of s t)
  effect_of t h = drop_fits s (resolved s t) (fits s t h)

  mutual
    fits_statement : (x : TreeStmt) → IsProperStatement s x → FitsStatement s (resolved_statement s x)
    fits_statement (stmt.eval e) h = effect_fits s (dropped (resolved s e)) (effect_of e h)
    fits_statement (stmt.print es) h = (refl, fits_all s es h)
    fits_statement (stmt.printf tree.none) h = absurd h
    fits_statement (stmt.printf (tree.more f es)) h = (format_fits s (resolved s f) (fits s f h.0), refl, fits_all s es h.1)
    fits_statement (stmt.when e a) h = (fits s e h.0, fits_body a h.1)
    fits_statement (stmt.choose e a d) h = (fits s e h.0, fits_body a h.1, fits_body d h.2)
    fits_statement (stmt.repeat e a) h = (fits s e h.0, fits_body a h.1)
    fits_statement (stmt.do_while a e) h = (fits_body a h.0, fits s e h.1)
    fits_statement (stmt.loop a d e body) h = (
      (
        if_some (IsProper s) (FitsEffect s) (simple_of s) effect_of a h.0,
        if_some (IsProper s) (Fits s) (resolved s) (fits s) d h.1,
        if_some (IsProper s) (FitsEffect s) (simple_of s) effect_of e h.2,
      ),
      fits_body body h.3,
    )
    fits_statement (stmt.walk k x a) h = ((variable_fits s k h.0 h.1).0, array_fits s x h.2, fits_body a h.3)
    fits_statement (stmt.go_out word.Next) h = tt
    fits_statement (stmt.go_out word.NextFile) h = tt
    fits_statement (stmt.go_out word.Break) h = tt
    fits_statement (stmt.go_out word.Continue) h = tt
    fits_statement (stmt.exit_with e) h = if_some (IsProper s) (Fits s) (resolved s) (fits s) e h
    fits_statement (stmt.return_with e) h = if_some (IsProper s) (Fits s) (resolved s) (fits s) e h
    fits_statement (stmt.delete x es) h = (array_fits s x h.0, fits_all s es h.1)
    fits_statement (stmt.clear x) h = array_fits s x h

    pub fits_body : (xs : TreeStmts) → IsProperBody s xs → FitsBody s (resolved_body s xs)
    fits_body stmt.done h = tt
    fits_body (stmt.next x xs) h = (fits_statement x h.0, fits_body xs h.1)

  loop_back : (a x d y e z : Option Tree) (body other : TreeStmts) → a ≡ x → d ≡ y → e ≡ z → body ≡ other → stmt.loop a d e body ≡ stmt.loop x y z other
  loop_back a x d y e z body other p q r b = ap₂ (λ u v. u v) (ap₂ (λ u v. u v) (ap₂ (λ u v. stmt.loop u v) p q) r) b

  mutual
    spells_statement : (x : TreeStmt) → IsProperStatement s x → spelled_statement s (resolved_statement s x) ≡ x
    spells_statement (stmt.eval e) h = simple_back s e h
    spells_statement (stmt.print es) h = ap stmt.print (spells_all s es h)
    spells_statement (stmt.printf tree.none) h = absurd h
    spells_statement (stmt.printf (tree.more f es)) h =
        ap₂ (λ x us. stmt.printf (tree.more x us)) (format_back s (resolved s f) ∙ spells s f h.0) (spells_all s es h.1)
    spells_statement (stmt.when e a) h = ap₂ (λ x us. stmt.when x us) (spells s e h.0) (spells_body a h.1)
    spells_statement (stmt.choose e a d) h =
        ap₂ (λ u v. u v) (ap₂ (λ x us. stmt.choose x us) (spells s e h.0) (spells_body a h.1)) (spells_body d h.2)
    spells_statement (stmt.repeat e a) h = ap₂ (λ x us. stmt.repeat x us) (spells s e h.0) (spells_body a h.1)
    spells_statement (stmt.do_while a e) h = ap₂ (λ us x. stmt.do_while us x) (spells_body a h.0) (spells s e h.1)
    spells_statement (stmt.loop a d e body) h = loop_back _ _ _ _ _ _ _ _
        (there_and_back (IsProper s) (simple_of s) (spelled_effect s) (effect_back s) a h.0)
        (there_and_back (IsProper s) (resolved s) (spelled s) (spells s) d h.1)
        (there_and_back (IsProper s) (simple_of s) (spelled_effect s) (effect_back s) e h.2)
        (spells_body body h.3)
    spells_statement (stmt.walk k x a) h =
        ap₂ (λ u v. u v) (ap₂ (λ y z. stmt.walk y z) (variable_fits s k h.0 h.1).1 (array_back s x h.2)) (spells_body a h.3)
    spells_statement (stmt.go_out word.Next) h = refl
    spells_statement (stmt.go_out word.NextFile) h = refl
    spells_statement (stmt.go_out word.Break) h = refl
    spells_statement (stmt.go_out word.Continue) h = refl
    spells_statement (stmt.exit_with e) h = ap stmt.exit_with (there_and_back (IsProper s) (resolved s) (spelled s) (spells s) e h)
    spells_statement (stmt.return_with e) h = ap stmt.return_with (there_and_back (IsProper s) (resolved s) (spelled s) (spells s) e h)
    spells_statement (stmt.delete x es) h = ap₂ (λ y us. stmt.delete y us) (array_back s x h.0) (spells_all s es h.1)
    spells_statement (stmt.clear x) h = ap stmt.clear (array_back s x h)

    pub spells_body : (xs : TreeStmts) → IsProperBody s xs → spelled_body s (resolved_body s xs) ≡ xs
    spells_body stmt.done h = refl
    spells_body (stmt.next x xs) h = ap₂ (λ y ys. stmt.next y ys) (spells_statement x h.0) (spells_body xs h.1)

module _ (s : Scope) (t : AreTables s) where
  effect_same : (x : Simple) → FitsEffect s x → resolved_statement s (stmt.eval (spelled_effect s x)) ≡ simple x
  effect_same x h = ap simple (effect_again s t x h)

  simple_again : (x : Simple) → FitsSimple s x → resolved_statement s (spelled_simple s x) ≡ simple x
  simple_again (drop e) h = effect_same (drop e) h
  simple_again (set p e) h = effect_same (set p e) h
  simple_again (add o p e) h = effect_same (add o p e) h
  simple_again (count o p) h = effect_same (count o p) h
  simple_again (print calm es) h = ap (λ xs. simple (print_of xs)) (again_all s t es h.1) ∙ ap (λ b. simple (print b es)) (sym h.0)
  simple_again (printf f calm es) h =
      ap₂ (λ g xs. simple (printf_by g xs)) (again_format s t f h.0) (again_all s t es h.2) ∙ ap (λ b. simple (printf f b es)) (sym h.1)
  simple_again (delete a es) h = ap₂ (λ x xs. simple (delete x xs)) (array_again s t a h.0) (again_all s t es h.1)
  simple_again (clear a) h = ap (λ x. simple (clear x)) (array_again s t a h)

  leave_again : (l : Leave) → FitsLeave s l → resolved_statement s (spelled_leave s l) ≡ leave l
  leave_again break h = refl
  leave_again continue h = refl
  leave_again next_record h = refl
  leave_again next_file h = refl
  leave_again (exit e) h = ap (λ o. leave (exit o)) (there_and_back (Fits s) (spelled s) (resolved s) (again s t) e h)
  leave_again (return e) h = ap (λ o. leave (return o)) (there_and_back (Fits s) (spelled s) (resolved s) (again s t) e h)

  same_head : (h : Head) (a c : Option Simple) (d : Option Expr) → a ≡ h.first → d ≡ h.condition → c ≡ h.last →
      (let new : Head = record { first = a; condition = d; last = c } in new ≡ h)
  same_head h a c d p q r i = record { first = p i; condition = q i; last = r i }

  head_again : (h : Head) → FitsHead s h →
      head_of s (option_map (spelled_effect s) h.first) (option_map (spelled s) h.condition) (option_map (spelled_effect s) h.last) ≡ h
  head_again h k = same_head h _ _ _
      (there_and_back (FitsEffect s) (spelled_effect s) (simple_of s) (effect_again s t) h.first k.0)
      (there_and_back (Fits s) (spelled s) (resolved s) (again s t) h.condition k.1)
      (there_and_back (FitsEffect s) (spelled_effect s) (simple_of s) (effect_again s t) h.last k.2)

  mutual
    again_statement : (x : Stmt) → FitsStatement s x → resolved_statement s (spelled_statement s x) ≡ x
    again_statement (simple x) h = simple_again x h
    again_statement (leave l) h = leave_again l h
    again_statement (when e a) h = ap₂ (λ x us. when x us) (again s t e h.0) (again_body a h.1)
    again_statement (choose e a d) h = ap₂ (λ u v. u v) (ap₂ (λ x us. choose x us) (again s t e h.0) (again_body a h.1)) (again_body d h.2)
    again_statement (repeat e a) h = ap₂ (λ x us. repeat x us) (again s t e h.0) (again_body a h.1)
    again_statement (do_while a e) h = ap₂ (λ us x. do_while us x) (again_body a h.0) (again s t e h.1)
    again_statement (loop k a) h = ap₂ (λ x us. loop x us) (head_again k h.0) (again_body a h.1)
    again_statement (walk k x a) h =
        ap₂ (λ u v. u v) (ap₂ (λ y z. walk y z) (variable_again s t k h.0) (array_again s t x h.1)) (again_body a h.2)

    pub again_body : (xs : Stmts) → FitsBody s xs → resolved_body s (spelled_body s xs) ≡ xs
    again_body done h = refl
    again_body (next x xs) h = ap₂ (λ y ys. next y ys) (again_statement x h.0) (again_body xs h.1)

  pub one_body : (c d : Stmts) → FitsBody s c → FitsBody s d → spelled_body s c ≡ spelled_body s d → c ≡ d
  one_body c d h k e = sym (again_body c h) ∙ ap (resolved_body s) e ∙ again_body d k

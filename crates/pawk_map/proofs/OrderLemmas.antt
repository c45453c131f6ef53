-- The table file of a shard.
use Rattle.std.proofs.Common.{◌≡◌, ◌∙◌, ℕ, ◌+◌, List, [], ◌++◌, length, Option, Result, Ok, refl, ap, sym, subst, append_assoc}
use Rattle.std.specs.Prelude.{All}
use Rattle.std.proofs.KnownBytes.{Appends-trans}
use Rattle.std.proofs.lemmas.List.Elements.{All-nil}
use Rattle.std.specs.Io.KnownBytes.{Appends}
use Rattle.sha2.specs.Hashers.{Holds256}
use Rattle.sha2.specs.declared.Sha256.{Sha256}
use Rattle.pawk_input.specs.Input.{File}
use Rattle.pawk_code.specs.ProgramViews.{code_view}
use Rattle.pawk_store.specs.Openings.{pairs_of}
use Rattle.pawk_store.specs.RecordStates.{RecordState}
use Rattle.pawk_admit.specs.Roles.{roles_view}
use Rattle.pawk_admit.specs.declared.reason.Reason.{Reason}
use Rattle.pawk_admit.specs.declared.role.Roles.{Roles}
use Rattle.pawk_lines.specs.Lines.{Line, IsLine, line_bytes}
use Rattle.pawk_lines.specs.Lines as lines
use Rattle.pawk_parts.specs.Parts.{all_bytes}
use Rattle.pawk_tables.specs.Layout.{Header, Section, header_lines, AllSpell, IsBody, IsTableFile, end_bytes}
use Rattle.pawk_merge_law.specs.Phases.{MayRun}
use Rattle.pawk_pieces.specs.Begins.{AreRolesFrom, IsStart}
use Rattle.pawk_pieces.specs.Pieces.{phase_between}
use Rattle.pawk_pieces.specs.declared.begin.Start.{Start}
use Rattle.pawk_map.specs.Maps.{Ground, Goes, TellFiles, Writes}
use Rattle.pawk_map.specs.Orders.{IsEmptyFile, IsFileFrom, WritesAll, ground_from, header_in}
use Rattle.pawk_map.specs.declared.draft.Progress.{Progress}
use Rattle.pawk_map.specs.declared.mapped.Mapped.{Mapped}
use Rattle.pawk_map.specs.declared.order.MapOrder.{MapOrder}

-- a header, sections and the number of records are a body
abbrev pub BodyLaw : Type 0
BodyLaw =
    (scalars arrays : ℕ) (h : Header) (ss : List Section) (ls : List Line) (count : ℕ) → All IsLine (header_lines h) → AllSpell scalars arrays ss ls → All IsLine ls → IsLine (lines.records count) →
    IsBody scalars arrays (all_bytes (header_lines h) ++ (all_bytes ls ++ line_bytes (lines.records count))) h ss count

-- All sections were written, and then the end.
pub all_written : (u : Ground) (files : List File) (a b c : Option (List ℕ)) (old new : Progress) (digest : Sha256) (sections : List Section) (mapped : Mapped) →
    old.digest ≡ digest → mapped.records ≡ new.records → Goes u.scalars u.arrays a b old new sections new.records → TellFiles u files sections new.records → IsLine (lines.records new.records) →
    ((body : List ℕ) → Holds256 new.digest body → Appends b c (line_bytes (lines.records new.records) ++ end_bytes (body ++ line_bytes (lines.records new.records)))) →
    WritesAll u a c digest files mapped
all_written u files a b c old new digest sections mapped begins count goes tell line ends =
    let n : new.records ≡ mapped.records = sym count in
    record {
      sections = sections;
      bytes = goes.bytes;
      say = goes.say;
      tell = subst (TellFiles u files sections) n tell;
      line = subst (λ k. IsLine (lines.records k)) n line;
      wrote = λ body held.
          subst (λ k. Appends a c (goes.bytes ++ (line_bytes (lines.records k) ++ end_bytes ((body ++ goes.bytes) ++ line_bytes (lines.records k))))) n
          (Appends-trans a b c goes.bytes (line_bytes (lines.records new.records) ++ end_bytes ((body ++ goes.bytes) ++ line_bytes (lines.records new.records)))
          goes.wrote.appends (ends (body ++ goes.bytes) (goes.wrote.holds body (subst (λ d. Holds256 d body) (sym begins) held))));
    }

-- A header was written, then all that follows it.
pub file_whole : BodyLaw → (u : Ground) (h : Header) (files : List File) (mapped : Mapped) (a b c : Option (List ℕ)) (old digest : Sha256) →
    All IsLine (header_lines h) → Holds256 old [] → Writes a b old digest (all_bytes (header_lines h)) → (all : WritesAll u b c digest files mapped) →
    (bytes : List ℕ) × Appends a c bytes × IsTableFile u.scalars u.arrays bytes h all.sections mapped.records
file_whole law u h files mapped a b c old digest front begins header all =
    let head = all_bytes (header_lines h) in
    let last = line_bytes (lines.records mapped.records) in
    let body = head ++ (all.bytes ++ last) in
    let end = end_bytes ((head ++ all.bytes) ++ last) in
    let rest = all.bytes ++ (last ++ end) in
    let same : (head ++ all.bytes) ++ last ≡ body = append_assoc head all.bytes last in
    let whole : head ++ rest ≡ body ++ end_bytes body =
    ap (λ x. head ++ x) (sym (append_assoc all.bytes last end)) ∙ sym (append_assoc head (all.bytes ++ last) end) ∙ ap (λ x. body ++ end_bytes x) same in
    let is : IsBody u.scalars u.arrays body h all.sections mapped.records =
    subst (λ x. IsBody u.scalars u.arrays (head ++ (x ++ last)) h all.sections mapped.records) (sym all.say.whole)
    (law u.scalars u.arrays h all.sections all.say.lines mapped.records front all.say.spell all.say.are all.line) in (
      head ++ rest,
      Appends-trans a b c head rest header.appends (all.wrote head (header.holds [] begins)),
      record { body = body; is = is; whole = whole },
    )

-- The file after BEGIN, which left this.
pub file_from : BodyLaw → (o : MapOrder) (start : Start) (roles : Roles) (files : List File) (mapped : Mapped) (a b c : Option (List ℕ)) (old digest : Sha256) → start.roles ≡ Ok roles →
    All IsLine (header_lines (header_in o)) → Holds256 old [] → Writes a b old digest (all_bytes (header_lines (header_in o))) → WritesAll (ground_from o start roles) b c digest files mapped →
    (bytes : List ℕ) × Appends a c bytes × IsFileFrom o files bytes mapped start
file_from law o start roles files mapped a b c old digest admitted front begins header all =
    let f = file_whole law (ground_from o start roles) (header_in o) files mapped a b c old digest front begins header all in
    (f.0, f.1, record { roles = roles; admitted = admitted; sections = all.sections; is = f.2; tell = all.tell })

-- A header was written, and then the end.
pub file_empty : BodyLaw → (o : MapOrder) (mapped : Mapped) (a b c : Option (List ℕ)) (old digest : Sha256) → mapped.records ≡ 0 →
    All IsLine (header_lines (header_in o)) → Holds256 old [] → Writes a b old digest (all_bytes (header_lines (header_in o))) → IsLine (lines.records 0) →
    ((body : List ℕ) → Holds256 digest body → Appends b c (line_bytes (lines.records 0) ++ end_bytes (body ++ line_bytes (lines.records 0)))) →
    (bytes : List ℕ) × Appends a c bytes × IsEmptyFile o bytes mapped
file_empty law o mapped a b c old digest none front begins header line ends =
    let head = all_bytes (header_lines (header_in o)) in
    let last = line_bytes (lines.records 0) in
    let body = head ++ last in
    let rest = last ++ end_bytes body in (
      head ++ rest,
      Appends-trans a b c head rest header.appends (ends head (header.holds [] begins)),
      (none, λ scalars arrays. record { body = body; is = law scalars arrays (header_in o) [] [] 0 front refl (All-nil IsLine) line; whole = sym (append_assoc head last (end_bytes body)) }),
    )

-- What is so of the roles that BEGIN leaves.
pub may_from : (o : MapOrder) (start : Start) (roles : Roles) → IsStart (code_view o.job.code.now) o.job.budget (pairs_of o.assignments.now) (pairs_of o.first.now) start → start.roles ≡ Ok roles →
    MayRun (phase_between (code_view o.job.code.now) (roles_view roles) o.job.budget start.flow)
may_from o start roles begun is =
    let h = subst (λ (r : Result Roles Reason). AreRolesFrom (code_view o.job.code.now) o.job.budget (pairs_of o.assignments.now) (pairs_of o.first.now) start.rs.items start.flow r) is begun.roles in h.2

-- the records after BEGIN, whose record state and RS are lent
abbrev pub ground_lent : MapOrder → Start → Roles → RecordState → List ℕ → Ground
ground_lent o start roles state rs = record {
  phase = record {
    code = code_view o.job.code.now;
    roles = roles_view roles;
    eres = (code_view o.job.code.now).expressions;
    budget = o.job.budget;
    globals = start.flow.globals;
    state = state;
    output = [];
  };
  rs = rs;
  nr = state.nr + o.before;
  scalars = length start.flow.globals.scalars;
  arrays = length start.flow.globals.arrays;
}

pub lent_ground : (o : MapOrder) (start : Start) (roles : Roles) (state : RecordState) (rs : List ℕ) → state ≡ start.flow.state → rs ≡ start.rs.items → ground_lent o start roles state rs ≡ ground_from o start roles
lent_ground o start roles state rs same lent = λ i. ground_lent o start roles (same i) (lent i)

-- A whole run over feeds.
use Rattle.std.proofs.Common.{◌≡◌, ℕ, List, [], ◌∷◌, ◌++◌, Option, Result, Ok, Err, IfOk, IfErr, OnOk, Vec, ap, sym, ◌∙◌, subst, append-nil}
use Rattle.std.proofs.KnownBytes.{Appends-trans, Keeps-refl}
use Rattle.std.specs.Io.KnownBytes.{Appends}
use Rattle.std.specs.declared.alloc.Global.{Global}
use Rattle.pawk_code.specs.Programs.{Code}
use Rattle.pawk_store.specs.Globals.{Globals, calls}
use Rattle.pawk_store.specs.Records.{Left}
use Rattle.pawk_store.specs.Runs.{Finish, after_records}
use Rattle.pawk_store.specs.Outputs.{in_a_row, finish_with_output_before}
use Rattle.pawk_sequential.specs.declared.outcome.Outcome.{Outcome}
use Rattle.pawk_sequential.specs.RunEnds.{Answers, AreSpecials, ending_view}
use Rattle.pawk_merge_law.specs.Flows.{Pairs, Turn}
use Rattle.pawk_routes.specs.declared.report.Route.{Route}
use Rattle.pawk_routes.specs.declared.report.Route.TheVariants.{Redo, Parallel}
use Rattle.pawk_admit.specs.declared.reason.Reason.{Reason}
use Rattle.pawk_admit.specs.declared.role.Roles.{Roles}
use Rattle.std.specs.Prelude.{Bool, MatchResult, is_some, Some, None}
use Rattle.pawk_flow.specs.Flow.{Flow}
use Rattle.pawk_flow.specs.Begins.{AreRolesFrom, IsStart}
use Rattle.pawk_flow.specs.Operands.{Operands, run_over, IsRouteOver}
use Rattle.pawk_flow.specs.Pieces.{end_between}
use Rattle.pawk_flow.specs.Start.{Start}
use Rattle.pawk_feeds.specs.Feeds.{AreTurnsOf, FlowsTo, WroteSome}
use Rattle.pawk_window.specs.declared.feed.Feed.{Feed}
use Rattle.pawk_feeds.specs.declared.flowed.Flowed.{Flowed}
use Rattle.pawk_feeds.specs.declared.stream.Stream.{Stream}
use Rattle.pawk_feeds.specs.Streams.{Course, RunsFiles, Tells, turns_fault, route_from, with_turns}
use Rattle.pawk_feeds.proofs.StreamLemmas.{both_front, wrote_none, wrote_more, wrote_after}
use Rattle.pawk_feeds.proofs.TurnsLemmas.{some_turns}

module _ (code : Code) (budget : ℕ) (assignments first last : Pairs) where
  -- these turns between the first assignments and the last
  abbrev operands : List Turn → Operands
  operands turns = record { first = first; turns = turns; last = last }

  abbrev meant : List Turn → Finish Globals
  meant turns = run_over code budget assignments (operands turns)

  abbrev Goes : List Turn → Route → Type 0
  Goes turns route = IsRouteOver code budget assignments (operands turns) route

  module _ {S : Type 0} (left : S → Option (List ℕ)) (feeds : List (Feed S)) where
    -- Nothing was written before a refusal.
    pub refused_unwritten : (taken : Option (List ℕ)) → (turns : List Turn) × AreTurnsOf left feeds turns × WroteSome taken taken (meant turns).output
    refused_unwritten taken = let turns = some_turns left feeds in (turns.0, turns.1, wrote_none taken taken _ (Keeps-refl taken))

    -- What is left is that of a run that has ended so, and was written to its end.
    pub answered_so : (turns : List Turn) (taken now_taken : Option (List ℕ)) (outcome : Outcome) (flowed : Flowed) → Answers (meant turns) outcome →
        flowed.globals ≡ outcome.globals → flowed.specials ≡ outcome.specials → flowed.ending ≡ outcome.ending → Goes turns flowed.route → Appends taken now_taken outcome.output → FlowsTo code budget assignments (operands turns) taken now_taken flowed
    answered_so turns taken now_taken outcome flowed answers globals specials ending route appends = record {
      route = route;
      globals = answers.globals ∙ sym globals;
      specials = subst (λ s. AreSpecials s (meant turns).state) (sym specials) answers.specials;
      ending = answers.ending ∙ ap (λ e. ending_view e) (sym ending);
      wrote = subst (λ (l : List ℕ). Appends taken now_taken l) (sym answers.output) appends;
    }

    -- A run that has ended so whatever its files are, where its outcome is written.
    pub ended_answered : {E : Type 0} (taken now_taken : Option (List ℕ)) (outcome : Outcome) (route : Route) → ((turns : List Turn) → Answers (meant turns) outcome × Goes turns route) → (r : Result Flowed E) → IfOk r (λ f. f.route ≡ route) →
        IfOk r (λ f. f.globals ≡ outcome.globals) → IfOk r (λ f. f.specials ≡ outcome.specials) → IfOk r (λ f. f.ending ≡ outcome.ending) → OnOk r (Appends taken now_taken outcome.output) →
        IfOk r (λ f. (turns : List Turn) × AreTurnsOf left feeds turns × FlowsTo code budget assignments (operands turns) taken now_taken f)
    ended_answered taken now_taken outcome route answers (Ok f) route_is globals specials ending appends =
        let turns = some_turns left feeds in
        (turns.0, turns.1, answered_so turns.0 taken now_taken outcome f (answers turns.0).0 globals specials ending (subst (λ x. Goes turns.0 x) (sym route_is) (answers turns.0).1) appends)
    ended_answered taken now_taken outcome route answers (Err e) route_is globals specials ending appends = tt

    -- The same, where it is written in part.
    pub ended_refused : {X E : Type 0} (taken now_taken : Option (List ℕ)) (outcome : Outcome) → ((turns : List Turn) → Answers (meant turns) outcome) → (r : Result X E) →
        IfErr r (λ _. WroteSome taken now_taken outcome.output) →
        IfErr r (λ _. (turns : List Turn) × AreTurnsOf left feeds turns × WroteSome taken now_taken (meant turns).output)
    ended_refused taken now_taken outcome answers (Ok x) some = tt
    ended_refused taken now_taken outcome answers (Err e) some =
        let turns = some_turns left feeds in
        (turns.0, turns.1, subst (λ (l : List ℕ). WroteSome taken now_taken l) (sym (answers turns.0).output) some)

    -- The route of a run whose roles tell of its files.
    pub route_is : (begun : Result Roles Reason) (rs : List ℕ) (flow : Flow) → AreRolesFrom code budget assignments first rs flow begun → (roles : Option Roles) (reason : Option Reason) →
        MatchResult begun (λ r. (roles ≡ Some r) × (reason ≡ None)) (λ e. (roles ≡ None) × (reason ≡ Some e)) → (turns : List Turn) (after : Option Roles) →
        Tells (turns_fault (record { code = code; budget = budget; rs = rs; last = last }) flow turns) (λ r. ⊥) roles after → (some : Bool) → some ≡ is_some after →
        Goes turns (route_from reason some)
    route_is (Ok r) rs flow are roles reason parted turns after tells some some_is =
        let u : Course = record { code = code; budget = budget; rs = rs; last = last } in
        let t = subst (λ (o : Option Roles). Tells (turns_fault u flow turns) (λ r. ⊥) o after) parted.0 tells in
        subst (λ (o : Option Reason). Goes turns (route_from o some)) (sym parted.1)
        (subst (λ (b : Bool). Goes turns (route_from None b)) (sym some_is) (by_roles r u flow turns after (are.3 turns last) t))
      where
        by_roles : (r : Roles) (u : Course) (flow : Flow) (turns : List Turn) (after : Option Roles) →
            (turns_fault u flow turns r → Goes turns Redo) × ((¬ turns_fault u flow turns r) → Goes turns Parallel) →
            Tells (turns_fault u flow turns) (λ r. ⊥) (Some r) after → Goes turns (route_from None (is_some after))
        by_roles r u flow turns None h t = h.0 t
        by_roles r u flow turns (Some s) h t = h.1 t.1.0
    route_is (Err e) rs flow are roles reason parted turns after tells some some_is =
        subst (λ (o : Option Reason). Goes turns (route_from o some)) (sym parted.1) (are turns last)

    module _ (start : Start) (is : IsStart code budget assignments first start) (parts : List (Vec ℕ Global)) (parts_is : parts ≡ start.output ∷ []) where
      -- The one part is what BEGIN wrote.
      row_is : in_a_row parts ≡ start.output.items
      row_is = ap in_a_row parts_is ∙ append-nil start.output.items

      -- What BEGIN wrote was written in part.
      pub begin_refused : (taken now_taken : Option (List ℕ)) → WroteSome taken now_taken (in_a_row parts) →
          (turns : List Turn) × AreTurnsOf left feeds turns × WroteSome taken now_taken (meant turns).output
      begin_refused taken now_taken some =
          let turns = some_turns left feeds in (
            turns.0,
            turns.1,
            subst (λ (f : Finish Globals). WroteSome taken now_taken f.output) (sym (is.rest turns.0 last))
                (wrote_more taken now_taken start.output.items _ (subst (λ (l : List ℕ). WroteSome taken now_taken l) row_is some)),
          )

      module _ (rs : List ℕ) (rs_is : rs ≡ start.rs.items) (s : Stream) (flow_is : s.flow ≡ start.flow) (taken out_taken : Option (List ℕ)) (wrote : Appends taken out_taken (in_a_row parts)) where
        abbrev course : Course
        course = record { code = code; budget = budget; rs = rs; last = last }

        -- The whole run is what BEGIN wrote, and what a stream goes on with that begins here.
        whole_is : (turns : List Turn) → meant turns ≡ finish_with_output_before start.output.items (with_turns course s.flow turns)
        whole_is turns =
            is.rest turns last
            ∙ (λ j. finish_with_output_before start.output.items (with_turns (record { code = code; budget = budget; rs = (sym rs_is) j; last = last }) ((sym flow_is) j) turns))

        -- What BEGIN wrote was written.
        begin_wrote : Appends taken out_taken start.output.items
        begin_wrote = subst (λ (l : List ℕ). Appends taken out_taken l) row_is wrote

        -- What was written at a refusal is a beginning of the whole run's output.
        pub run_refused : (now_taken : Option (List ℕ)) → ((turns : List Turn) × AreTurnsOf left feeds turns × WroteSome out_taken now_taken (with_turns course s.flow turns).output) →
            (turns : List Turn) × AreTurnsOf left feeds turns × WroteSome taken now_taken (meant turns).output
        run_refused now_taken why = (
          why.0,
          why.1,
          subst (λ (f : Finish Globals). WroteSome taken now_taken f.output) (sym (whole_is why.0))
              (wrote_after taken out_taken now_taken start.output.items _ begin_wrote why.2),
        )

        module _ (mid_taken now_taken : Option (List ℕ)) (how : Left) (now : Stream) (ran : (turns : List Turn) × AreTurnsOf left feeds turns × RunsFiles course out_taken mid_taken turns s how now) where
          -- Its route.
          pub run_route : (reason : Option Reason) → MatchResult start.roles (λ r. (s.roles ≡ Some r) × (reason ≡ None)) (λ e. (s.roles ≡ None) × (reason ≡ Some e)) → (some : Bool) → some ≡ is_some now.roles →
              Goes ran.0 (route_from reason some)
          run_route reason parted some some_is =
              route_is start.roles rs s.flow
              (subst (λ (f : Flow). AreRolesFrom code budget assignments first rs f start.roles) (sym flow_is) (subst (λ (l : List ℕ). AreRolesFrom code budget assignments first l start.flow start.roles) (sym rs_is) is.roles))
              s.roles reason parted ran.0 now.roles ran.2.tells some some_is

          -- how it ends
          abbrev ending : Finish Globals
          ending = after_records calls code.expressions code budget how (end_between now.flow)

          -- what was written before that
          abbrev front : List ℕ
          front = start.output.items ++ ran.2.wrote

          -- The whole run ends so, and what was written is in front.
          ends_so : meant ran.0 ≡ finish_with_output_before front ending
          ends_so =
              whole_is ran.0 ∙ ap (finish_with_output_before start.output.items) ran.2.is
              ∙ both_front start.output.items ran.2.wrote ending

          -- That was written.
          front_wrote : Appends taken mid_taken front
          front_wrote = Appends-trans taken out_taken mid_taken start.output.items ran.2.wrote begin_wrote ran.2.appends

          -- The end was written in part.
          pub end_refused : WroteSome mid_taken now_taken ending.output → (turns : List Turn) × AreTurnsOf left feeds turns × WroteSome taken now_taken (meant turns).output
          end_refused some = (
            ran.0,
            ran.1,
            subst (λ (f : Finish Globals). WroteSome taken now_taken f.output) (sym ends_so) (wrote_after taken mid_taken now_taken front _ front_wrote some),
          )

          -- It was not written.
          pub end_unwritten : (turns : List Turn) × AreTurnsOf left feeds turns × WroteSome taken mid_taken (meant turns).output
          end_unwritten = (
            ran.0,
            ran.1,
            subst (λ (f : Finish Globals). WroteSome taken mid_taken f.output) (sym ends_so) (wrote_after taken mid_taken mid_taken front _ front_wrote (wrote_none mid_taken mid_taken _ (Keeps-refl mid_taken))),
          )

          module _ (outcome : Outcome) (answers : Answers ending outcome) where
            -- The outcome was written in part.
            pub outcome_refused : WroteSome mid_taken now_taken outcome.output → (turns : List Turn) × AreTurnsOf left feeds turns × WroteSome taken now_taken (meant turns).output
            outcome_refused some = end_refused (subst (λ (l : List ℕ). WroteSome mid_taken now_taken l) (sym answers.output) some)

            -- The outcome was written.
            pub run_answered : (flowed : Flowed) → Goes ran.0 flowed.route → flowed.globals ≡ outcome.globals → flowed.specials ≡ outcome.specials → flowed.ending ≡ outcome.ending → Appends mid_taken now_taken outcome.output →
                (turns : List Turn) × AreTurnsOf left feeds turns × FlowsTo code budget assignments (operands turns) taken now_taken flowed
            run_answered flowed route globals specials end appends = (
              ran.0,
              ran.1,
              record {
                route = route;
                globals = ap (λ (f : Finish Globals). f.world) ends_so ∙ answers.globals ∙ sym globals;
                specials = subst (λ (f : Finish Globals). AreSpecials flowed.specials f.state) (sym ends_so) (subst (λ x. AreSpecials x ending.state) (sym specials) answers.specials);
                ending = ap (λ (f : Finish Globals). f.ending) ends_so ∙ answers.ending ∙ ap (λ e. ending_view e) (sym end);
                wrote = subst (λ (f : Finish Globals). Appends taken now_taken f.output) (sym ends_so)
                    (Appends-trans taken mid_taken now_taken front ending.output front_wrote
                    (subst (λ (l : List ℕ). Appends mid_taken now_taken l) (sym answers.output) appends));
              },
            )

            -- The same, where it was written or not.
            pub answered_if : {E : Type 0} (r : Result Flowed E) (route : Route) → Goes ran.0 route → IfOk r (λ f. f.route ≡ route) → IfOk r (λ f. f.globals ≡ outcome.globals) → IfOk r (λ f. f.specials ≡ outcome.specials) → IfOk r (λ f. f.ending ≡ outcome.ending) → OnOk r (Appends mid_taken now_taken outcome.output) →
                IfOk r (λ f. (turns : List Turn) × AreTurnsOf left feeds turns × FlowsTo code budget assignments (operands turns) taken now_taken f)
            answered_if (Ok f) route goes route_is globals specials end appends = run_answered f (subst (λ x. Goes ran.0 x) (sym route_is) goes) globals specials end appends
            answered_if (Err e) route goes route_is globals specials end appends = tt

            -- The same, where it was written in part or not.
            pub refused_if : {X E : Type 0} (r : Result X E) → IfErr r (λ _. WroteSome mid_taken now_taken outcome.output) →
                IfErr r (λ _. (turns : List Turn) × AreTurnsOf left feeds turns × WroteSome taken now_taken (meant turns).output)
            refused_if (Ok x) some = tt
            refused_if (Err e) some = outcome_refused some

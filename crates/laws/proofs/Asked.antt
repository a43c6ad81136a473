-- What the law of steps asks of a state follows from what the states of a run keep.
use Rattle.std.proofs.Common.{◌≡◌, ℕ, zero, suc, ◌+◌, ◌-◌, ◌*◌, ◌%◌, ◌<◌, ◌≤◌, Bool, true, false, cond, not, ◌&&◌, ◌||◌, eqb, ltb, leb, ◌⊎◌, List, [], ◌∷◌, length, ℤ, Ok, Err, sym, refl, ap, ◌∙◌, subst, inl, inr, ⊎_elim, arith}
use Rattle.std.specs.List.{AllByRecursion}
use Rattle.std.proofs.lemmas.List.{get_or_past}
use Rattle.std.proofs.lemmas.Bool.{and_parts, or_cases, not-true, ltb-true, leb-true, eqb-true, le-leb, cond-true, cases_lt, false≢true, both_ways}
use Rattle.rules.specs.Book.{records, record_at, fits, all_words, is_book}
use Rattle.rules.specs.Script.{Script, line_at, is_none, alike, turned_kind, terms_of, bracket, where_is}
use Rattle.rules.specs.Check.{known, sort, reaches, names, form_of, form, among, within, terms_form, expression_form, depth, checked}
use Rattle.rules.specs.Step.{State, in_record, base, past, met, turn_of, kind_met, entry, find, read, rules, step, flipped}
use Rattle.rules.specs.declared.Spot.{Spot}
use Rattle.rules.specs.declared.Spot.TheVariants.{InBook}
use Rattle.rules.specs.declared.Line.{Line}
use Rattle.rules.specs.declared.Place.{Place}
use Rattle.rules.specs.declared.Place.TheVariants.{None, M, R, N, F, V}
use Rattle.laws.proofs.Chains.{ok_err, ok_same}
use Rattle.laws.proofs.Back.{At}
use Rattle.laws.proofs.Lens.{Within}
use Rattle.laws.proofs.Places.{Sound, terms_sound, apart as places-apart}
use Rattle.laws.proofs.Turning.{Each, each_at, turned_twice}
use Rattle.laws.proofs.Nest.{other_line, at_open, at_close}
use Rattle.laws.proofs.Stack.{stack_at, Found}
use Rattle.laws.proofs.StepBack.{Changes, Pairs, Opens, Closes, Refers, Two, Distinct, Calls, Returns, Asks, same_kind, steps_back}
use Rattle.laws.proofs.Inside.{In, plain_stack}
use Rattle.laws.proofs.Methods.{block, Method, method_of, calls_method}
use Rattle.laws.proofs.Methods as methods
use Rattle.laws.proofs.Values.{word_fits}
use Rattle.laws.proofs.Fit.{cur, Chain, Fit, present_in, read_word, kind_of_lem, opens_depth, closes_depth, turn_at, turn_in}
use Rattle.laws.proofs.Keep.{at_return, bracket_met}
use Rattle.rules.specs.declared.Refusal.TheVariants.{Unknown}
use Rattle.reversible.specs.Ledger.{accepted}

pub sized : (b : List ℤ) → is_book b ≡ true → length b ≡ 81 + 8 * records b
sized b h =
    let (f, _) = and_parts (fits (length b)) (all_words b) h in
    let (low, rest) = and_parts (leb 81 (length b)) _ f in
    let (high, whole) = and_parts (leb (length b) 8081) _ rest in
    let l = leb-true 81 (length b) low in
    let w = eqb-true ((length b - 81) % 8) 0 whole in
    omega arith

-- ---- spots of a state lie in it

module _ (s : State) (D : ℕ) (size : length s.book ≡ 81 + 8 * records s.book) (present : s.present ≤ records s.book) (deep : length s.locals ≡ base s.frames + D) where
  in_record_lem : (k i : ℕ) → k ≤ records s.book → i < 8 → (u : Spot) → in_record k i ≡ Ok u → (w : ℕ) × (u ≡ InBook w) × (0 < w) × (w < length s.book)
  in_record_lem zero i h l u e = ok_err e
  in_record_lem (suc k) i h l u e = (record_at (suc k) + i, sym (ok_same e), omega arith, omega arith)

  pub reference_in : (p : Place) (u : Spot) → known p ≡ true → sort p ≡ 2 → find s p ≡ Ok u → (w : ℕ) × (u ≡ InBook w) × (0 < w) × (w < length s.book)
  reference_in None u k so e = absurd (omega arith)
  reference_in (M i) u k so e = absurd (omega arith)
  reference_in (R i) u k so e = let (a, b) = and_parts (leb 1 i) (leb i 16) k in let c = leb-true i 16 b in (64 + i, sym (ok_same e), omega arith, omega arith)
  reference_in (N i) u k so e = absurd (omega arith)
  reference_in (F i) u k so e = let (a, b) = and_parts (leb 0 i) (leb i 3) k in let c = leb-true i 3 b in in_record_lem s.present (4 + i) present (omega arith) u e
  reference_in (V i) u k so e = absurd (omega arith)

  in_book : (u : Spot) → (w : ℕ) × (u ≡ InBook w) × (0 < w) × (w < length s.book) → Within s u
  in_book u (w, e, _, h) = subst (Within s) (sym e) h

  pub place_in : (p : Place) (u : Spot) → known p ≡ true → reaches D p ≡ true → find s p ≡ Ok u → Within s u
  place_in None u k r e = ok_err e
  place_in (M i) u k r e = let (a, b) = and_parts (leb 1 i) (leb i 64) k in let c = leb-true i 64 b in subst (Within s) (ok_same e) (let g : i < length s.book = omega arith in g)
  place_in (R i) u k r e = let (a, b) = and_parts (leb 1 i) (leb i 16) k in let c = leb-true i 16 b in subst (Within s) (ok_same e) (let g : 64 + i < length s.book = omega arith in g)
  place_in (N i) u k r e = let (a, b) = and_parts (leb 0 i) (leb i 3) k in let c = leb-true i 3 b in in_book u (in_record_lem s.present i present (omega arith) u e)
  place_in (F i) u k r e = let (a, b) = and_parts (leb 0 i) (leb i 3) k in let c = leb-true i 3 b in in_book u (in_record_lem s.present (4 + i) present (omega arith) u e)
  place_in (V i) u k r e = let c = ltb-true i D r in subst (Within s) (ok_same e) (let g : base s.frames + i < length s.locals = omega arith in g)

some_place : (p : Place) (n : ℕ) → sort p ≡ suc n → is_none p ≡ false
some_place None n e = absurd (omega arith)
some_place (M i) n e = refl
some_place (R i) n e = refl
some_place (N i) n e = refl
some_place (F i) n e = refl
some_place (V i) n e = refl

pub among_one : (a b c e : ℕ) → among a b ((c, e) ∷ []) ≡ true → a ≡ c
among_one a b c e h = ⊎_elim (λ t. eqb-true a c (and_parts (eqb a c) (eqb b e) t).0) (λ f. absurd (false≢true f)) (or_cases (eqb a c && eqb b e) false h)

-- ---- what the check found of a line

module _ (sc : Script) (l : ℕ) (F : Found sc l) where
  abbrev ln : Line
  ln = line_at sc.lines l

  abbrev D : ℕ
  D = depth (stack_at sc.lines l)

  pub known_x : known ln.x ≡ true
  known_x = (and_parts (known ln.x) _ (and_parts (leb ln.kind 17) _ F.filled).1).0

  pub known_y : known ln.y ≡ true
  known_y = (and_parts (known ln.y) _ (and_parts (known ln.x) _ (and_parts (leb ln.kind 17) _ F.filled).1).1).0

  pub sorts_as : (j : ℕ) → ln.kind ≡ j → among (sort ln.x) (sort ln.y) (form_of j).sorts ≡ true
  sorts_as j h = subst (λ j. among (sort ln.x) (sort ln.y) (form_of j).sorts ≡ true) h (and_parts (among (sort ln.x) (sort ln.y) (form_of ln.kind).sorts) _ F.formed).0

  pub reaches_both : (reaches D ln.x ≡ true) × (reaches D ln.y ≡ true)
  reaches_both =
      and_parts (reaches D ln.x) (reaches D ln.y)
      (and_parts (reaches D ln.x && reaches D ln.y) _ (and_parts (among (sort ln.x) (sort ln.y) (form_of ln.kind).sorts) _ F.formed).1).0

  pub expression_as : (j : ℕ) → ln.kind ≡ j → (not (form_of j).expression || expression_form sc.terms (cond (eqb j 9) (D - 1) D) ln) ≡ true
  expression_as j h =
      subst (λ j. (not (form_of j).expression || expression_form sc.terms (cond (eqb j 9) (D - 1) D) ln) ≡ true) h
      (and_parts (not (eqb ln.kind 8) || ltb D 16) _
      (and_parts (reaches D ln.x && reaches D ln.y) _ (and_parts (among (sort ln.x) (sort ln.y) (form_of ln.kind).sorts) _ F.formed).1).1).1

  pub apart_as : (j : ℕ) → ln.kind ≡ j → (not (within 12 13 j) || not (alike ln.x ln.y)) ≡ true
  apart_as j h =
      subst (λ j. (not (within 12 13 j) || not (alike ln.x ln.y)) ≡ true) h
      (and_parts (is_none ln.x || not (names ln.x (terms_of sc.terms ln))) _ F.separate).1

  unnamed : is_none ln.x ≡ false → names ln.x (terms_of sc.terms ln) ≡ false
  unnamed n = ⊎_elim (λ t. absurd (both_ways (is_none ln.x) n t)) (λ t. not-true _ t) (or_cases (is_none ln.x) _ (and_parts (is_none ln.x || not (names ln.x (terms_of sc.terms ln))) _ F.separate).0)

  sound : (d : ℕ) → expression_form sc.terms d ln ≡ true → AllByRecursion (Sound d) (terms_of sc.terms ln)
  sound d e = terms_sound d _ (and_parts (terms_form d (terms_of sc.terms ln)) _ (and_parts (leb (ln.first + ln.count) (length sc.terms)) _ (and_parts (within 1 32 ln.count) _ e).1).1).0

-- ---- kind by kind

module _ (sc : Script) (ok : checked sc ≡ accepted) (q : ℕ) (d : Bool) where
  abbrev Given : ℕ → Type 0
  Given k = (l : ℕ) (s : State) → l < length sc.lines → At l s → met s.forward (line_at sc.lines l).kind ≡ k → Fit sc q d s → Asks k sc l s

  module _ (l : ℕ) (s : State) (inside : l < length sc.lines) (here : At l s) (F : Fit sc q d s) where
    abbrev st : ℕ → List Line
    st = stack_at sc.lines

    abbrev fw : Bool
    fw = s.forward

    found_l : Found sc l
    found_l = methods.found sc ok l inside

    stands : In (cur sc q s.frames) (st (past (not fw) l))
    stands = subst (λ p. In (cur sc q s.frames) (st p)) here F.within

    deep : length s.locals ≡ base s.frames + depth (st (past (not fw) l))
    deep = F.deep ∙ ap (λ p. base s.frames + depth (st p)) here

    deep_plain : bracket (line_at sc.lines l).kind ≡ false → length s.locals ≡ base s.frames + depth (st l)
    deep_plain b = deep ∙ ap (λ x. base s.frames + depth x) (plain_stack sc.lines l inside b (not fw))

    size : length s.book ≡ 81 + 8 * records s.book
    size = sized s.book F.book

    present : s.present ≤ records s.book
    present = present_in sc q (records s.book) s.frames s.present F.chain

    asks_changes : (j : ℕ) → (line_at sc.lines l).kind ≡ j → form_of j ≡ form false true ((1, 0) ∷ []) → eqb j 9 ≡ false → Changes sc l s
    asks_changes j h f n =
        let so : among (sort (ln sc l found_l).x) (sort (ln sc l found_l).y) ((1, 0) ∷ []) ≡ true = subst (λ g. among (sort (ln sc l found_l).x) (sort (ln sc l found_l).y) g.sorts ≡ true) f (sorts_as sc l found_l j h) in
        let some = some_place (line_at sc.lines l).x 0 (among_one _ (sort (line_at sc.lines l).y) 1 0 so) in
        let e : expression_form sc.terms (D sc l found_l) (line_at sc.lines l) ≡ true =
        subst (λ b. expression_form sc.terms (cond b (D sc l found_l - 1) (D sc l found_l)) (line_at sc.lines l) ≡ true) n
        (subst (λ g. (not g.expression || expression_form sc.terms (cond (eqb j 9) (D sc l found_l - 1) (D sc l found_l)) (line_at sc.lines l)) ≡ true) f (expression_as sc l found_l j h)) in
        record {
          depth = D sc l found_l;
          place = known_x sc l found_l;
          terms = sound sc l found_l (D sc l found_l) e;
          apart = unnamed sc l found_l some;
          word = λ u at. word_fits (read s u) (read_word sc q d s F u);
        }

    asks_pairs : bracket (line_at sc.lines l).kind ≡ true → Pairs sc l s
    asks_pairs b =
        let (twice, kind) = other_line sc.lines (block sc ok) l inside b in
        record { twice = twice; kind = ap (met (not fw)) kind ∙ by fw }
      where
        by : (fw : Bool) → met (not fw) (turned_kind (line_at sc.lines l).kind) ≡ met fw (line_at sc.lines l).kind
        by true = turned_twice (line_at sc.lines l).kind
        by false = refl

    asks_opens : met fw (line_at sc.lines l).kind ≡ 8 → Opens sc l s
    asks_opens h = record { depth = depth (st (past (not fw) l)); terms = by fw h; opened = deep }
      where
        by : (fw : Bool) → met fw (line_at sc.lines l).kind ≡ 8 → AllByRecursion (Sound (depth (st (past (not fw) l)))) (terms_of sc.terms (line_at sc.lines l))
        by true h = sound sc l found_l _ (expression_as sc l found_l 8 h)
        by false h =
            let o = opens_depth sc ok l inside false h in
            let e : depth (st l) - 1 ≡ depth (st (suc l)) = omega arith in
            subst (λ n. AllByRecursion (Sound n) (terms_of sc.terms (line_at sc.lines l))) e (sound sc l found_l _ (expression_as sc l found_l 9 (kind_of_lem false (line_at sc.lines l).kind 8 h)))

    asks_closes : met fw (line_at sc.lines l).kind ≡ 9 → Closes sc l s
    asks_closes h =
        record { depth = depth (st (past fw l)); terms = by fw h; opened = deep ∙ ap (λ n. base s.frames + n) (closes_depth sc ok l inside fw h); few = F.few }
      where
        by : (fw : Bool) → met fw (line_at sc.lines l).kind ≡ 9 → AllByRecursion (Sound (depth (st (past fw l)))) (terms_of sc.terms (line_at sc.lines l))
        by true h =
            let o = closes_depth sc ok l inside true h in
            let e : depth (st l) - 1 ≡ depth (st (suc l)) = omega arith in
            subst (λ n. AllByRecursion (Sound n) (terms_of sc.terms (line_at sc.lines l))) e (sound sc l found_l _ (expression_as sc l found_l 9 h))
        by false h = sound sc l found_l _ (expression_as sc l found_l 8 (kind_of_lem false (line_at sc.lines l).kind 9 h))

    asks_refers : (j : ℕ) → (line_at sc.lines l).kind ≡ j → bracket j ≡ false → form_of j ≡ form false false ((2, 0) ∷ []) → Refers sc l s
    asks_refers j h b f =
        let so : among (sort (line_at sc.lines l).x) (sort (line_at sc.lines l).y) ((2, 0) ∷ []) ≡ true = subst (λ g. among (sort (line_at sc.lines l).x) (sort (line_at sc.lines l).y) g.sorts ≡ true) f (sorts_as sc l found_l j h) in
        record { inside = λ u at. reference_in s (depth (st l)) size present (deep_plain (ap bracket h ∙ b)) (line_at sc.lines l).x u (known_x sc l found_l) (among_one _ (sort (line_at sc.lines l).y) 2 0 so) at }

    asks_two : bracket (line_at sc.lines l).kind ≡ false → Two sc l s
    asks_two b =
        let (rx, ry) = reaches_both sc l found_l in
        record {
          inside = λ u w at₁ at₂. (
            place_in s (depth (st l)) size present (deep_plain b) (line_at sc.lines l).x u (known_x sc l found_l) rx at₁,
            place_in s (depth (st l)) size present (deep_plain b) (line_at sc.lines l).y w (known_y sc l found_l) ry at₂,
          );
        }

    asks_distinct : (j : ℕ) → (line_at sc.lines l).kind ≡ j → bracket j ≡ false → within 12 13 j ≡ true → Distinct sc l s
    asks_distinct j h b w =
        let x = (line_at sc.lines l).x in
        let y = (line_at sc.lines l).y in
        let differ : not (alike x y) ≡ true = subst (λ t. (not t || not (alike x y)) ≡ true) w (apart_as sc l found_l j h) in
        record { two = asks_two (ap bracket h ∙ b); apart = λ u v at₁ at₂. places-apart s.present (base s.frames) x y u v (known_x sc l found_l) (known_y sc l found_l) (not-true (alike x y) differ) at₁ at₂ }

    asks_calls : ((line_at sc.lines l).kind ≡ 16) ⊎ ((line_at sc.lines l).kind ≡ 17) → Calls sc l s
    asks_calls kinds = record { exists = by (method_of sc ok (line_at sc.lines l).q (calls_method sc ok l inside kinds)) }
      where
        by : Method sc ok (line_at sc.lines l).q → (fw : Bool) → met (not fw) (line_at sc.lines (where_is (met fw 0) (line_at sc.lines l).q sc.lines)).kind ≡ 1
        by m true = ap (λ i. turned_kind (line_at sc.lines i).kind) m.first ∙ ap (λ x. turned_kind x.kind) (at_open sc.lines m.pair) ∙ ap turned_kind m.begins
        by m false = ap (λ i. (line_at sc.lines i).kind) m.last ∙ ap (λ x. x.kind) (at_close sc.lines m.pair) ∙ m.ends

    asks_returns : met fw (line_at sc.lines l).kind ≡ 1 → Returns sc l s
    asks_returns h = record {
      frame = λ f fs tops.
          let (L, rest) : Chain sc q (records s.book) (f ∷ fs) s.present = subst (λ gs. Chain sc q (records s.book) gs s.present) tops F.chain in
          let (none, place) = at_return sc ok l (cur sc q s.frames) inside fw h stands in
          let counted : base s.frames ≡ f.count = ap base tops in
          let m : cur sc q s.frames ≡ (line_at sc.lines f.line).q = ap (cur sc q) tops in (
            (let e = deep in omega arith),
            L.few,
            (L.same, λ y. let (more, real) = L.real y in (more, cond-true (leb s.present (records s.book)) _ _ (le-leb s.present (records s.book) real))),
            subst (λ x. entry sc (not fw) x ≡ s.position) m (place ∙ sym here),
            L.calls,
          );
    }

  give_0 : Given 0
  give_0 l s i here h fit = tt

  give_5 : Given 5
  give_5 l s i here h fit = tt

  give_6 : Given 6
  give_6 l s i here h fit = tt

  give_1 : Given 1
  give_1 l s i here h fit = asks_returns l s i here fit h

  give_2 : Given 2
  give_2 l s i here h fit = by s.forward h
    where
      by : (fw : Bool) → met fw (line_at sc.lines l).kind ≡ 2 → Changes sc l s
      by true h = asks_changes l s i here fit 2 h refl refl
      by false h = asks_changes l s i here fit 3 (kind_of_lem false (line_at sc.lines l).kind 2 h) refl refl

  give_3 : Given 3
  give_3 l s i here h fit = by s.forward h
    where
      by : (fw : Bool) → met fw (line_at sc.lines l).kind ≡ 3 → Changes sc l s
      by true h = asks_changes l s i here fit 3 h refl refl
      by false h = asks_changes l s i here fit 2 (kind_of_lem false (line_at sc.lines l).kind 3 h) refl refl

  give_14 : Given 14
  give_14 l s i here h fit = by s.forward h
    where
      by : (fw : Bool) → met fw (line_at sc.lines l).kind ≡ 14 → Changes sc l s
      by true h = asks_changes l s i here fit 14 h refl refl
      by false h = asks_changes l s i here fit 14 (kind_of_lem false (line_at sc.lines l).kind 14 h) refl refl

  give_10 : Given 10
  give_10 l s i here h fit = by s.forward h
    where
      by : (fw : Bool) → met fw (line_at sc.lines l).kind ≡ 10 → Refers sc l s
      by true h = asks_refers l s i here fit 10 h refl refl
      by false h = asks_refers l s i here fit 11 (kind_of_lem false (line_at sc.lines l).kind 10 h) refl refl

  give_11 : Given 11
  give_11 l s i here h fit = by s.forward h
    where
      by : (fw : Bool) → met fw (line_at sc.lines l).kind ≡ 11 → Refers sc l s
      by true h = asks_refers l s i here fit 11 h refl refl
      by false h = asks_refers l s i here fit 10 (kind_of_lem false (line_at sc.lines l).kind 11 h) refl refl

  give_12 : Given 12
  give_12 l s i here h fit = by s.forward h
    where
      by : (fw : Bool) → met fw (line_at sc.lines l).kind ≡ 12 → Distinct sc l s
      by true h = asks_distinct l s i here fit 12 h refl refl
      by false h = asks_distinct l s i here fit 13 (kind_of_lem false (line_at sc.lines l).kind 12 h) refl refl

  give_13 : Given 13
  give_13 l s i here h fit = by s.forward h
    where
      by : (fw : Bool) → met fw (line_at sc.lines l).kind ≡ 13 → Distinct sc l s
      by true h = asks_distinct l s i here fit 13 h refl refl
      by false h = asks_distinct l s i here fit 12 (kind_of_lem false (line_at sc.lines l).kind 13 h) refl refl

  give_4 : Given 4
  give_4 l s i here h fit = asks_pairs l s i here fit (bracket_met s.forward _ 4 h refl)

  give_7 : Given 7
  give_7 l s i here h fit = asks_pairs l s i here fit (bracket_met s.forward _ 7 h refl)

  give_8 : Given 8
  give_8 l s i here h fit = asks_opens l s i here fit h

  give_9 : Given 9
  give_9 l s i here h fit = asks_closes l s i here fit h

  give_15 : Given 15
  give_15 l s i here h fit = asks_two l s i here fit (ap bracket (same_kind sc l 15 s refl h))

  give_16 : Given 16
  give_16 l s i here h fit = asks_calls l s i here fit (inl (same_kind sc l 16 s refl h))

  give_17 : Given 17
  give_17 l s i here h fit = asks_calls l s i here fit (inr (same_kind sc l 17 s refl h))

  all_given : Each Given 0 18
  all_given = (give_0, (give_1, (give_2, (give_3, (give_4, (give_5, (give_6, (give_7, (give_8, (give_9, (give_10, (give_11, (give_12, (give_13, (give_14, (give_15, (give_16, (give_17, tt))))))))))))))))))

  -- a step, and the step back
  pub step_back : (s t : State) → Fit sc q d s → step sc s ≡ Ok t → step sc (flipped t) ≡ Ok (flipped s)
  unfolding step
  step_back s t fit e =
      ⊎_elim
      (λ low. steps_back sc s t (turn_at sc ok q d s fit)
      (each_at Given 0 18 (kind_met sc s) all_given (omega arith) (omega arith) (turn_of s) s (turn_in sc ok q d s fit) (turn_at sc ok q d s fit) refl fit) e)
      (λ high. ok_err (ap (λ r. r sc (turn_of s) s) (sym (get_or_past rules (kind_met sc s) (λ _ _ _. Err Unknown) high)) ∙ e))
      (cases_lt (kind_met sc s) 18)

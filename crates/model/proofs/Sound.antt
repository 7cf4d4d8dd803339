-- What every call keeps: each bus is sound, the interconnects lead where they led, and the modules stand where they stood.
use Rattle.std.proofs.Common.{◌≡◌, ℕ, zero, suc, ◌/◌, ◌%◌, ◌^◌, ◌<◌, true, cond, not, ◌&&◌, eqb, List, [], ◌∷◌, Some, None, sym, ap, ◌∙◌, subst}
use Rattle.std.proofs.lemmas.Option.{none-some}
use Rattle.std.proofs.lemmas.Bool.{eqb-true, eq-eqb, and_parts, both_ways, not-true, cond_both}
use Rattle.std.specs.List.{slice_get}
use Rattle.arbitration.specs.Lists.{holds}
use Rattle.arbitration.specs.Rules.{its}
use Rattle.arbitration.proofs.Keeping.{SoundBus, sound_after}
use Rattle.model.specs.declared.calls.Call.{Call}
use Rattle.model.specs.declared.cells.Space.{Space}
use Rattle.model.specs.declared.parts.Interconnect.{Interconnect}
use Rattle.model.specs.Crates.{Crate, bus_at, interconnect_to, leads_to, set_pointer, index_of}
use Rattle.model.specs.Ways.{passes, route, next_hop, path}
use Rattle.model.specs.Addresses.{number_in, is_meant}
use Rattle.model.specs.Calls.{is_interconnect, is_master, step}
use Rattle.model.specs.Runs.{after_calls}
use Rattle.model.proofs.Basics.{In, in_map, map_in, first_in, first_some, opt_both}
use Rattle.model.proofs.Frame.{Steps, Transfers, step_kept}
use Rattle.model.proofs.Lookups.{on_bus, bus_operation, wire, wires, wires_flags, stations, stations_pointer, index_station}

-- at most one interconnect leads to a segment, and from a lower one
pub record Plan (W : List Interconnect) : Type 0 where
  pub once : (v w : Interconnect) → In v W → In w W → v.far ≡ w.far → v ≡ w
  pub rising : (w : Interconnect) → In w W → w.near < w.far

pub record Sound (W : List Interconnect) (S : List ℕ) (c : Crate) : Type 0 where
  pub wiring : wires c ≡ W
  pub stationing : stations c ≡ S
  pub buses : (n : ℕ) → SoundBus (bus_at n c)

-- l is the level of no interconnect on segment n
abbrev pub Master : List Interconnect → ℕ → ℕ → Type 0
Master W n l = (w : Interconnect) → In w W → w.far ≡ n → w.level ≡ l → ⊥

-- each interconnect stands on the segment to which the one before it leads, the first on segment m
abbrev pub Chain : List Interconnect → ℕ → List Interconnect → Type 0
Chain W m [] = Unit {0}
Chain W m (i ∷ is) = In (wire i) W × (i.near ≡ m) × Chain W i.far is

module _ (W : List Interconnect) (S : List ℕ) where
  -- ---- every call keeps it
  abbrev Kept : Crate → Crate → Type 0
  Kept c d = Sound W S c → Sound W S d

  sound_pointer : (k : ℕ) (s : Space) (v : ℕ) (c : Crate) → Kept c (set_pointer k s v c)
  sound_pointer k s v c h = record { wiring = h.wiring; stationing = stations_pointer k s v c ∙ h.stationing; buses = h.buses }

  pub sound_steps : Steps Kept
  sound_steps =
      record {
        same = λ c h. h;
        then = λ c d e p q h. q (p h);
        event = λ n e c h. record { wiring = h.wiring; stationing = h.stationing; buses = λ m. on_bus (λ a b. SoundBus a → SoundBus b) m n e c (λ _. sound_after e (bus_at n c)) (λ z. z) (h.buses m) };
        flags = λ n f c h. record { wiring = wires_flags n f c ∙ h.wiring; stationing = h.stationing; buses = h.buses };
        operation = λ n o c h. record { wiring = h.wiring; stationing = h.stationing; buses = λ m. subst SoundBus (sym (bus_operation m n o c)) (h.buses m) };
        pointer = sound_pointer;
      }

  sound_transfers : (k : ℕ) → Transfers k Kept
  sound_transfers k =
      record {
        same = λ c h. h;
        then = λ c d e p q h. q (p h);
        pointer = sound_pointer k;
        stores = λ s a w c h. record { wiring = h.wiring; stationing = h.stationing; buses = h.buses };
      }

  pub sound_step : (x : Call) (c : Crate) → Sound W S c → Sound W S (step x c).crate
  sound_step x c = step_kept Kept sound_steps (λ k. sound_transfers k.slot) x c

  pub sound_calls : (xs : List Call) (c : Crate) → Sound W S c → Sound W S (after_calls xs c)
  sound_calls [] c h = h
  sound_calls (x ∷ xs) c h = sound_calls xs (step x c).crate (sound_step x c h)

  -- ---- what the look-ups of a sound crate give
  in_wires : (i : Interconnect) (c : Crate) → Sound W S c → In i c.interconnects → In (wire i) W
  in_wires i c h z = subst (In (wire i)) h.wiring (in_map wire i c.interconnects z)

  next_wire : (n g : ℕ) (i : Interconnect) (c : Crate) → Sound W S c → next_hop n g c.interconnects ≡ Some i → In (wire i) W × (i.near ≡ n)
  next_wire n g i c h =
      cond_both (eqb n g) None (route n g c.interconnects) (λ o. o ≡ Some i → In (wire i) W × (i.near ≡ n)) (λ _ e. absurd (none-some i e))
      (λ _ e.
      let r : In i c.interconnects × ((eqb i.near n && passes g i) ≡ true) = first_in (λ i. eqb i.near n && passes g i) i c.interconnects e in
      (in_wires i c h r.0, eqb-true i.near n (and_parts (eqb i.near n) (passes g i) r.1).0))

  pub path_chain : (k n g : ℕ) (c : Crate) → Sound W S c → Chain W n (path k n g c.interconnects)
  unfolding path
  path_chain zero n g c h = tt
  path_chain (suc k) n g c h =
      opt_both (next_hop n g c.interconnects) [] (λ i. i ∷ path k i.far g c.interconnects) (Chain W n) (λ _. tt)
      (λ i e. let r : In (wire i) W × (i.near ≡ n) = next_wire n g i c h e in (r.0, r.1, path_chain k i.far g c h))

  pub master_from : (n l : ℕ) (c : Crate) → Plan W → Sound W S c → is_master n l c ≡ true → Master W n l
  master_from n l c p h e w z far level =
      let x : (j : Interconnect) × In j c.interconnects × (w ≡ wire j) = map_in wire w c.interconnects (subst (In w) (sym h.wiring) z) in
      let x_far : leads_to n x.0 ≡ true = eq-eqb x.0.far n (ap (λ (v : Interconnect). v.far) (sym x.2) ∙ far) in
      let y : (j : Interconnect) × (interconnect_to n c ≡ Some j) = first_some (leads_to n) x.0 c.interconnects x.1 x_far in
      let y_in : In y.0 c.interconnects × (leads_to n y.0 ≡ true) = first_in (leads_to n) y.0 c.interconnects y.1 in
      let same : wire y.0 ≡ w = p.once (wire y.0) w (in_wires y.0 c h y_in.0) z (eqb-true y.0.far n y_in.1 ∙ sym far) in
      let here : is_interconnect n l c ≡ true = ap (holds (λ i. eqb i.level l)) y.1 ∙ eq-eqb y.0.level l (ap (λ (v : Interconnect). v.level) same ∙ level) in
      both_ways (is_interconnect n l c) (not-true (is_interconnect n l c) (and_parts (its l (λ _. true) (bus_at n c)) (not (is_interconnect n l c)) e).1) here

  pub meant_station : (m ad k : ℕ) (c : Crate) → Sound W S c → index_of (is_meant m ad) c.slots ≡ Some k → slice_get S k ≡ Some m
  meant_station m ad k c h e =
      subst (λ gs. slice_get gs k ≡ Some m) h.stationing
      (index_station (is_meant m ad) m
      (λ x t. eqb-true x.segment m
      (and_parts (eqb x.segment m) (cond (eqb (number_in ad) 0) (eqb (ad / 2 ^ 8 % 256) 0 && eqb x.position (ad % 256)) (eqb x.number (number_in ad))) t).0)
      c.slots k e)

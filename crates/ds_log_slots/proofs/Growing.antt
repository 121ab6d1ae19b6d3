-- One turn more: the device, the clock and each host's digest after it.
use Rattle.std.proofs.Common.{◌≡◌, ◌≢◌, ℕ, cond, List, [], ◌∷◌, ◌++◌, refl, sym, ◌∙◌, ap}
use Rattle.std.specs.Prelude.{◌==◌, if◌then◌else◌}
use Rattle.std.proofs.lemmas.Bool.{eq-eqb, ne_eqb}
use Rattle.std.proofs.lemmas.List.{map_push}
use Rattle.ds_base.specs.declared.geometry.Geom.{Geom}
use Rattle.ds_base.specs.declared.sectors.Sector.{Sector}
use Rattle.ds_log.specs.Store.{after_step, store}
use Rattle.ds_log.proofs.Growing.{store-push}
use Rattle.ds_conduct.specs.Digests.{Digest, fresh_digest}
use Rattle.ds_log.specs.Turns.{Part, Begins, Goes, Aside, Turn, events_of, sectors_after, last_tick_from, last_tick, started, turned, digest_from, digest}

pub sectors_after-push : (s : List Sector) (ts : List Turn) (t : Turn)
    → sectors_after s (ts ++ t ∷ []) ≡ after_step (sectors_after s ts) t.event.step
sectors_after-push s ts t = ap (store s) (map_push (λ (t : Turn). t.event) ts t) ∙ store-push s (events_of ts) t.event

last_tick_from-push : (now : ℕ) (ts : List Turn) (t : Turn) → last_tick_from now (ts ++ t ∷ []) ≡ t.event.at
last_tick_from-push now [] t = refl
last_tick_from-push now (x ∷ ts) t = last_tick_from-push x.event.at ts t

pub last_tick-push : (ts : List Turn) (t : Turn) → last_tick (ts ++ t ∷ []) ≡ t.event.at
last_tick-push ts t = last_tick_from-push 0 ts t

module _ (g : Geom) where
  digest_from-push : (i : ℕ) (d : Digest) (ts : List Turn) (t : Turn)
      → digest_from g i d (ts ++ t ∷ []) ≡ (if t.event.host == i then turned g (digest_from g i d ts) t else digest_from g i d ts)
  digest_from-push i d [] t = refl
  digest_from-push i d (x ∷ ts) t = digest_from-push i (if x.event.host == i then turned g d x else d) ts t

  -- the digest of the turn's host, and of any other
  pub digest-mover : (i : ℕ) (ts : List Turn) (t : Turn) → t.event.host ≡ i
      → digest g i (ts ++ t ∷ []) ≡ turned g (digest g t.event.host ts) t
  digest-mover i ts t h =
      digest_from-push i fresh_digest ts t ∙ ap (λ b. cond b (turned g (digest g i ts) t) (digest g i ts)) (eq-eqb t.event.host i h)
      ∙ ap (λ k. turned g (digest g k ts) t) (sym h)

  pub digest-other : (i : ℕ) (ts : List Turn) (t : Turn) → t.event.host ≢ i → digest g i (ts ++ t ∷ []) ≡ digest g i ts
  digest-other i ts t h = digest_from-push i fresh_digest ts t
      ∙ ap (λ b. cond b (turned g (digest g i ts) t) (digest g i ts)) (ne_eqb t.event.host i h)

-- what a beginning keeps
pub own-started : (d : Digest) (part : Part) → (started d part).own ≡ d.own
own-started d (Begins call) = refl
own-started d Goes = refl
own-started d Aside = refl

pub notes-started : (d : Digest) (part : Part) → (started d part).notes ≡ d.notes
notes-started d (Begins call) = refl
notes-started d Goes = refl
notes-started d Aside = refl

-- Which neighbors are Full: together with the configuration, they determine the router-LSA.
pub use Rattle.router.specs.Described.{full_routers}

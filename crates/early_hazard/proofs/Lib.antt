mod HazardLaws
